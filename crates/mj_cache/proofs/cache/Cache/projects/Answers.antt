use Rattle.std.proofs.Common.{ap, ◌∙◌}
use Rattle.mj_tables.specs.Layered.{all_writes, writes_key}
use Rattle.mj_cache.proofs.cache.Cache.projects.Goals as goal

pub returns : goal.returns
returns c = c.projects.ensures ∙ ap (λ v. writes_key c.args.key.now (all_writes v.groups)) c.self.view_is
