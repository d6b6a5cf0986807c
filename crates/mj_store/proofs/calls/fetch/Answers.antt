use Rattle.std.proofs.Common.{sym, subst}
use Rattle.mj_store.specs.declared.want.Want.{Want}
use Rattle.mj_store.specs.declared.want.Got.TheVariants.{Keys}
use Rattle.mj_store.specs.Calls.{Fetches}
use Rattle.mj_store.proofs.calls.fetch.Goals as goal

pub returns-in_ok-keys-in-Page-clause-ok : goal.returns-in_ok-keys-in-Page-clause-ok
returns-in_ok-keys-in-Page-clause-ok g c =
    let told = g.S.ObjectStore.state in
    subst (λ (w : Want). Fetches w (Keys c.in_ok-keys-in-Page.field-0) (told c.args.store.now) (told c.keys.new.self)) (sym c.in-Page.is) c.in_ok-keys-in-Page.ensures.ok
