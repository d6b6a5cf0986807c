-- Bytes that are refused are no name.
use Rattle.std.proofs.Common.{◌≡◌, ℕ, true, false, List, Some, refl, sym, ◌∙◌}
use Rattle.mj_base.specs.Name.{is_name, name_refusal}
use Rattle.mj_base.specs.declared.name.NameRefusal.{NameRefusal}
use Rattle.mj_base.proofs.NameLemmas.{name_refusal-none}
use Rattle.mj_maps.proofs.MapLaws.{none_some}

pub no_name : (why : NameRefusal) (bytes : List ℕ) → name_refusal bytes ≡ Some why → is_name bytes ≡ false
no_name why bytes e = elim (is_name bytes) as (λ b. is_name bytes ≡ b → b ≡ false) [
  | true ↦ λ t. absurd (none_some why (sym (name_refusal-none bytes t) ∙ e))
  | false ↦ λ _. refl
] refl
