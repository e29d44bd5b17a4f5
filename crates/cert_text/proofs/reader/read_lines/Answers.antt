use Rattle.std.proofs.Common.{rules, ◌≡◌, ◌++◌, ◌∷◌, [], sym, ap, ◌∙◌, subst}
use Rattle.std.proofs.lemmas.List.{length-map, map-append}
use Rattle.cert_text.specs.Lines.{IsOfNoKind, HoldsOverRange}
use Rattle.cert_text.specs.Values.{plain, plain_lines}
use Rattle.std.proofs.Common.{Err}
use Rattle.cert_text.specs.Reading.{IsReading}
use Rattle.cert_text.specs.declared.line.BadText.{BadText}
use Rattle.cert_text.proofs.Streaming.{so_far_none, so_far_more, so_far_stops, so_far_ends}
use Rattle.cert_text.proofs.reader.read_lines.Goals as goal

pub loop-front-init : goal.loop-front-init
loop-front-init c = record {
  so_far = rw c.new-lines.ensures.items (so_far_none c.args.kept.now.items c.args.text.now c.requires.within);
  counted = search rules;
}

pub returns-in-Err-OfNoKind : goal.returns-in-Err-OfNoKind
returns-in-Err-OfNoKind c = (
  search (rules, length-map),
  so_far_stops _ _ _ _ c.in-Some.front.now c.in-Some.behind.now IsOfNoKind c.loop-front.invariant.so_far c.in-Some.ensures.parts
      (subst IsOfNoKind (c.deref.ensures.value ∙ c.in_ok-extend_from_slice.ensures.items)
      (let P : BadText → Type 0 = λ e. IsReading c.deref.result.now (Err e) in subst P c.in-Err-OfNoKind.field-0-is c.in-Err-OfNoKind.ensures)),
)

pub returns-in-Err-OverRange : goal.returns-in-Err-OverRange
returns-in-Err-OverRange c = (
  search (rules, length-map),
  so_far_stops _ _ _ _ c.in-Some.front.now c.in-Some.behind.now HoldsOverRange c.loop-front.invariant.so_far c.in-Some.ensures.parts
      (subst HoldsOverRange (c.deref.ensures.value ∙ c.in_ok-extend_from_slice.ensures.items)
      (let P : BadText → Type 0 = λ e. IsReading c.deref.result.now (Err e) in subst P c.in-Err-OverRange.field-0-is c.in-Err-OverRange.ensures)),
)

pub loop-front-preserved : goal.loop-front-preserved
loop-front-preserved c = record {
  so_far =
      let lines : plain_lines c.push.new.self.items ≡ plain_lines c.loop-front.lines.items ++ plain c.in-Ok.line ∷ [] =
      ap plain_lines c.in_ok-push-in-Ok.ensures.items ∙ map-append plain c.loop-front.lines.items (c.in-Ok.line ∷ []) in
      rw (lines, c.clear.ensures.items)
      (so_far_more _ _ _ _ c.in-Some.front.now c.in-Some.behind.now (plain c.in-Ok.line) c.loop-front.invariant.so_far c.in-Some.ensures.parts _
      (sym (c.deref.ensures.value ∙ c.in_ok-extend_from_slice.ensures.items)) c.in-Ok.ensures);
  counted = search rules;
}

pub returns : goal.returns
returns c =
    rw c.in_ok-extend_from_slice-2.ensures.items
    (so_far_ends _ _ _ _ c.loop-front.invariant.so_far c.in_default.ensures.parts)
