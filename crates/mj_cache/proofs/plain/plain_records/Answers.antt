use Rattle.std.proofs.Common.{List, ap, ◌∙◌}
use Rattle.std.specs.Prelude.{filter_map}
use Rattle.mj_recovery.specs.Tree.{by_inode}
use Rattle.mj_judge.specs.Parts.{Cell}
use Rattle.mj_judge.specs.Rows.{count_in, full_in}
use Rattle.mj_judge.specs.Judged.{held, link_times, open_times}
use Rattle.mj_judge.proofs.Counted.{if_ok}
use Rattle.mj_cache.proofs.PlainMaps.{records_of_cells}
use Rattle.mj_cache.proofs.plain.plain_records.Goals as goal

pub returns : goal.returns
returns c = if_ok c.kept_records.result _ _ (λ v is m cells dirs. is ∙ records_of_cells c.args.rank m c.args.dirs.now.keys dirs
    (count_in c.in_ok-links.links) (count_in c.in_ok-opens.opens)
    (λ i. c.in_ok-links.ensures i ∙ ap (λ (cs : List Cell). link_times cs c.args.dirs.now.keys i) cells)
    (λ i. c.in_ok-opens.ensures i ∙ ap (λ (cs : List Cell). open_times cs i) cells)
    c.in_ok-inodes.inodes.entries
    (c.in_ok-inodes.ensures ∙ ap (λ (cs : List Cell). by_inode (filter_map (full_in (held c.args.rank c.args.dirs.now.keys)) cs)) cells)
    c.kept_records.ensures.ordered) c.kept_records.ensures.entries
