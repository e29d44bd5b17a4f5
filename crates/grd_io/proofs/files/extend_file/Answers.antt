use Rattle.std.proofs.Common.{[], ◌++◌, ap, sym, subst, ◌∙◌}
use Rattle.std.specs.Prelude.{unwrap_or}
use Rattle.grd_io.specs.Devices.{plain_files, IsFirstOf}
use Rattle.grd_io.proofs.Changing.{changed_at, same_at, bytes_at, refused}
use Rattle.grd_io.proofs.files.extend_file.Goals as goal

pub returns-in_err-extend_from_slice-clause-refused : goal.returns-in_err-extend_from_slice-clause-refused
returns-in_err-extend_from_slice-clause-refused c =
    refused _ (same_at c.args.files.now.items c.in-Some.place c.index_mut.result.now c.extend_from_slice.new.self c.index_mut.ensures.value c.in_err-extend_from_slice.ensures.items)

pub returns-in_ok-extend_from_slice-clause-grown : goal.returns-in_ok-extend_from_slice-clause-grown
returns-in_ok-extend_from_slice-clause-grown c =
    let found = subst (λ files. IsFirstOf (plain_files files) c.args.name.now c.in-Some.place) c.deref.ensures.value c.in-Some.ensures.found in
    let held = bytes_at c.args.files.now.items c.in-Some.place c.index_mut.result.now c.args.name.now c.index_mut.ensures.value found in
    changed_at c.args.files.now.items c.in-Some.place c.index_mut.result.now c.extend_from_slice.new.self c.args.name.now _ c.index_mut.ensures.value
    (c.in_ok-extend_from_slice.ensures.items ∙ ap (λ o. unwrap_or o [] ++ c.args.piece.now) (sym held)) found
