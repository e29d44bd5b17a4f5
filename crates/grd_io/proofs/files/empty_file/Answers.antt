use Rattle.std.proofs.Common.{subst}
use Rattle.grd_io.specs.Devices.{plain_files, IsFirstOf}
use Rattle.grd_io.proofs.Changing.{changed_at}
use Rattle.grd_io.proofs.files.empty_file.Goals as goal

pub returns-in-Some-clause-made : goal.returns-in-Some-clause-made
returns-in-Some-clause-made c =
    changed_at c.args.files.now.items c.in-Some.place c.index_mut.result.now c.clear.new.self c.args.name.now _ c.index_mut.ensures.value c.clear.ensures.items
    (subst (λ files. IsFirstOf (plain_files files) c.args.name.now c.in-Some.place) c.deref.ensures.value c.in-Some.ensures.found)
