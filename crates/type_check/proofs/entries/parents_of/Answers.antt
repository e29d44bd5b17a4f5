use Rattle.std.proofs.Common.{◌≡◌, ◌-◌, ◌∙◌, [], Some, None, length, set, drop, filter, replicate, ap, sym, subst, arith, rules}
use Rattle.std.specs.List.{IsDistinct, Contains}
use Rattle.std.specs.Str.{bytes_eq}
use Rattle.type_check.specs.Types.{type_of, is_entry, type_names}
use Rattle.type_check.specs.Chains.{parents_in}
use Rattle.type_check.proofs.NameLaws.{item_known}
use Rattle.type_check.proofs.ParentLaws.{entries_kept, none_left}
use Rattle.type_check.proofs.TypeLaws.{first_parents, some_type, distinct_types, type_known, parent_known}
use Rattle.type_check.proofs.entries.parents_of.Goals as goal

pub loop-at-init : goal.loop-at-init
loop-at-init c =
    let d = c.args.domain.now in
    let names = c.args.names.now in
    let xs = c.as_slice-types.result.now in
    let all : c.in_ok-parents.parents.items ≡ replicate c.len.result (Some 0) = search rules in
    ap (λ ps. set ps 0 None) all
    ∙ ap (λ n. set (replicate n (Some 0)) 0 None) c.len.ensures
    ∙ ap (λ ns. set (replicate (length ns) (Some 0)) 0 None) c.requires.names
    ∙ first_parents d
    ∙ ap (λ ns. parents_in ns []) (sym c.requires.names)
    ∙ ap (λ ts. parents_in names (filter is_entry ts)) (sym (none_left xs))

pub index_mut-requires : goal.index_mut-requires
index_mut-requires c = omega (arith, c.in_ok-parents.ensures.len, c.len.ensures, ap length c.requires.names, some_type c.args.domain.now)

pub note_parent-requires-clause-distinct : goal.note_parent-requires-clause-distinct
note_parent-requires-clause-distinct c = subst (IsDistinct bytes_eq) (sym c.requires.names) (distinct_types c.args.domain.now)

pub note_parent-requires-clause-known : goal.note_parent-requires-clause-known
note_parent-requires-clause-known c =
    let types : c.as_slice-types.result.now ≡ c.args.domain.now.types = search rules in
    let there = item_known c.as_slice-types.result.now c.args.domain.now.types (c.loop-at.at - 1) c.index-types-at.result types (omega arith) c.index-types-at.is in
    subst (λ names. Contains names c.index-types-at.result.name.text) (sym c.requires.names) (type_known c.args.domain.now c.index-types-at.result there)

pub note_parent-requires-clause-parent_known : goal.note_parent-requires-clause-parent_known
note_parent-requires-clause-parent_known c =
    let types : c.as_slice-types.result.now ≡ c.args.domain.now.types = search rules in
    let there = item_known c.as_slice-types.result.now c.args.domain.now.types (c.loop-at.at - 1) c.index-types-at.result types (omega arith) c.index-types-at.is in
    subst (λ names. Contains names (type_of c.index-types-at.result)) (sym c.requires.names) (parent_known c.args.domain.now c.index-types-at.result there)

pub loop-at-preserved : goal.loop-at-preserved
loop-at-preserved c =
    c.loop-at.invariant
    ∙ ap (parents_in c.args.names.now)
    (sym (entries_kept c.as_slice-types.result.now c.loop-at.at c.index-types-at.result (omega arith) (omega arith) c.index-types-at.is (sym c.if-is_entry.ensures)))

pub returns : goal.returns
returns c =
    let d = c.args.domain.now in
    let names = c.args.names.now in
    let xs = c.as_slice-types.result.now in
    let first : c.loop-at.at ≡ 0 = omega arith in
    let types : xs ≡ d.types = search rules in
    c.loop-at.invariant
    ∙ ap (λ k. parents_in names (filter is_entry (drop k xs))) first
    ∙ ap (λ ns. parents_in ns (filter is_entry xs)) c.requires.names
    ∙ ap (λ ts. parents_in (type_names d) (filter is_entry ts)) types
