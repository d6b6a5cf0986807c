-- An image has one finite map, and so recovers to one thing at most.
use Rattle.std.proofs.Common.{◌≡◌, ℕ, ◌^◌, ◌≤◌, Option, Some, None, Result, Ok, Err, refl, sym, ap, subst, ◌∙◌, arith}
use Rattle.mj_base.specs.Reading.{◌>>=◌}
use Rattle.mj_maps.specs.Map.{get}
use Rattle.mj_maps.proofs.MapLaws.{same_map}
use Rattle.mj_store.specs.Object.{Contents}
use Rattle.mj_layout.specs.Striping.{Striping}
use Rattle.mj_base.specs.declared.damage.Damage.{Damage}
use Rattle.mj_recovery.specs.declared.journal.LiveJournal.{LiveJournal}
use Rattle.mj_recovery.specs.Journal.{live_journal}
use Rattle.mj_recovery.specs.Tree.{tree_of}
use Rattle.mj_recovery.specs.Stream.{IsEnd, probed_end}
use Rattle.mj_recovery.specs.Objects.{Objects, Holds}
use Rattle.mj_recovery.specs.Recovered.{Recovery, RecoversTo, merged_table, merged_damage, merged_with, or_damage, recovered}
use Rattle.mj_recovery.proofs.Stores.{exact_name}
use Rattle.mj_recovery.proofs.Probing.{probed_end_is, one_end}

pub same_objects : (image : Contents) (m n : Objects) → Holds image m → Holds image n → m ≡ n
same_objects image m n h g = same_map exact_name m n (λ q. h q ∙ sym (g q))

same_ok : (r s : Recovery) → ◌≡◌ {A = Result Recovery Damage} (Ok r) (Ok s) → r ≡ s
same_ok r s e = cc

pub same_recovery : (rank : ℕ) (image : Contents) (r s : Recovery) → RecoversTo rank image r → RecoversTo rank image s → r ≡ s
same_recovery rank image r s a b = same_ok r s (sym a.recovers ∙ ap (recovered rank) (same_objects image a.objects b.objects a.holds b.holds) ∙ b.recovers)

-- what was judged has the tree of its table
undamaged : (rank : ℕ) (m : Objects) (j : LiveJournal) (r : Recovery) (o : Option Damage) → or_damage o (merged_with rank m j) ≡ Ok r → r.tree ≡ tree_of rank r.table
undamaged rank m j r None e = subst (λ (x : Recovery). x.tree ≡ tree_of rank x.table) (same_ok (merged_with rank m j) r e) refl
undamaged rank m j r (Some d) e = absurd cc

by_journal : (rank : ℕ) (m : Objects) (l : Result LiveJournal Damage) (r : Recovery)
    → ((l >>= λ j. Ok (merged_with rank m j)) >>= λ x. or_damage (merged_damage rank m x.journal x.table) x) ≡ Ok r → r.tree ≡ tree_of rank r.table
by_journal rank m (Err d) r e = absurd cc
by_journal rank m (Ok j) r e = undamaged rank m j r (merged_damage rank m j (merged_table rank m j.events)) e

has_tree : (rank : ℕ) (m : Objects) (r : Recovery) → recovered rank m ≡ Ok r → r.tree ≡ tree_of rank r.table
unfolding recovered
has_tree rank m r e = by_journal rank m (live_journal (get m) rank) r e

pub same_tree : (rank : ℕ) (a b : Contents) (r s : Recovery) → RecoversTo rank a r → RecoversTo rank b s → r.table ≡ s.table → r.tree ≡ s.tree
same_tree rank a b r s p q e = has_tree rank p.objects r p.recovers ∙ ap (tree_of rank) e ∙ sym (has_tree rank q.objects s q.recovers)

pub only_end : (image : Contents) (rank : ℕ) (layout : Striping) (x end : ℕ) → x ≤ 2 ^ 62 → IsEnd image rank layout x end → end ≡ probed_end image rank layout x
only_end image rank layout x end le is =
    let p = probed_end_is image rank layout x le in
    let a = one_end image rank layout x end (probed_end image rank layout x) is p in
    let b = one_end image rank layout x (probed_end image rank layout x) end p is in
    omega arith
