use Rattle.mj_delta.proofs.Fronts.{history_recovers, first_recovers}
use Rattle.mj_delta.proofs.histories.history_recovers.Goals as goal

pub returns : goal.returns
returns c = record { merged = λ rank m j t s older live is carries holds. history_recovers rank m j t s older live is carries holds; first = λ rank layout m j live small sound carries holds. first_recovers rank small layout sound m j live holds carries }
