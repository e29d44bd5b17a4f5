use Rattle.std.proofs.Common.{◌≡◌, ◌<◌, length, sym, ap, subst, ◌∙◌, ◌+◌, arith}
use Rattle.std.proofs.lemmas.List.{length-map}
use Rattle.std.specs.Prelude.{IsSomeAnd}
use Rattle.std.specs.Str.{bytes_eq}
use Rattle.grd_io.specs.Devices.{plain_files}
use Rattle.grd_io.proofs.Changing.{plain, plain_at, none_at_next, is_name}
use Rattle.grd_io.proofs.files.place_of.Goals as goal

pub returns-then-eq-clause-found : goal.returns-then-eq-clause-found
returns-then-eq-clause-found c =
    let entry = c.index-files-place.result in
    let within : c.loop-place.place < length c.args.files.now = omega (arith, c.loop-place-test.true, c.loop-place.invariant.within) in
    record {
      within = omega (arith, within, length-map c.args.files.now plain);
      named = subst (λ o. IsSomeAnd o (λ f. f.0 ≡ c.args.name.now)) (sym (plain_at c.args.files.now c.loop-place.place entry within c.index-files-place.is))
          (sym (is_name c.args.name.now (plain entry).0 (ap (λ e. bytes_eq c.args.name.now (plain e).0) c.index-files-place.is ∙ ap (bytes_eq c.args.name.now) (sym c.as_str.ensures.value) ∙ sym c.eq.ensures ∙ c.if-eq.true)));
      first = c.loop-place.invariant.first;
    }

pub loop-place-preserved : goal.loop-place-preserved
loop-place-preserved c =
    let entry = c.index-files-place.result in
    let within : c.loop-place.place < length c.args.files.now = omega (arith, c.loop-place-test.true, c.loop-place.invariant.within) in
    record {
      within = omega (arith, within);
      first = none_at_next (plain_files c.args.files.now) c.loop-place.place (c.loop-place.place + 1) (plain entry) c.args.name.now (omega arith) c.loop-place.invariant.first (plain_at c.args.files.now c.loop-place.place entry within c.index-files-place.is)
          (ap (λ e. bytes_eq c.args.name.now (plain e).0) c.index-files-place.is ∙ ap (bytes_eq c.args.name.now) (sym c.as_str.ensures.value) ∙ sym c.eq.ensures ∙ c.if-eq.false);
    }
