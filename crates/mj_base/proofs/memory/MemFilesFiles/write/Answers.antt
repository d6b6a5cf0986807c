use Rattle.std.proofs.Common.{◌≡◌, Some, ap, subst}
use Rattle.std.specs.Prelude.{string_bytes}
use Rattle.mj_base.specs.Files.{with_file}
use Rattle.mj_base.specs.Memory.{files_in}
use Rattle.mj_base.proofs.MemoryLemmas.{files_in-insert}
use Rattle.mj_base.proofs.memory.MemFilesFiles.write.Goals as goal

pub returns-clause-ok : goal.returns-clause-ok
returns-clause-ok c =
    let old = c.args.self.now.files in
    let new = c.insert.new.self in
    let at_name = files_in-insert old new (string_bytes c.in_ok-name.name) c.args.bytes.now c.in_ok-bytes.bytes c.in_ok-bytes.ensures.items c.in_ok-insert.ensures.updates in
    ap Some (subst (λ name. files_in new ≡ with_file name c.args.bytes.now (files_in old)) c.in_ok-name.ensures.ok at_name)
