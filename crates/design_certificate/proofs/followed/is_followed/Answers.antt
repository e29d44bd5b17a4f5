use Rattle.std.proofs.Common.{◌+◌, ◌<◌, ◌≤◌, ap, subst, arith, ℕ}
use Rattle.std.specs.Prelude.{◌↔◌, IsTrue, Any}
use Rattle.grd_base.specs.Bits.{members}
use Rattle.design_certificate.specs.Live.{PlainLiveRow}
use Rattle.design_certificate.specs.Index.{HasAll}
use Rattle.design_certificate.specs.Followers.{live_of}
use Rattle.design_certificate.proofs.FollowLemmas.{told_by, few_followed, deep_followed, next_followed}
use Rattle.design_certificate.proofs.followed.is_followed.Goals as goal

pub returns-then-not-are_two : goal.returns-then-not-are_two
returns-then-not-are_two g c =
    let live = live_of c.args.followers.now in
    let tells = told_by c.args.followers.now.costs.now live.tables c.as_slice.result.now c.args.row.now (members c.args.s.now) c.in_ok-goals.goals.items c.as_slice-found.result.now c.as_slice.ensures.value c.as_slice-found.ensures.value c.in_ok-goals.ensures in
    few_followed c.args.followers.now.costs.now c.args.followers.now.length live c.args.row.now (members c.args.s.now) c.as_slice-found.result.now tells (c.are_two.ensures.one c.if-not-are_two.true)

pub returns-then-followers-row : goal.returns-then-followers-row
returns-then-followers-row g c =
    let live = live_of c.args.followers.now in
    let tells = told_by c.args.followers.now.costs.now live.tables c.as_slice.result.now c.args.row.now (members c.args.s.now) c.in_ok-goals.goals.items c.as_slice-found.result.now c.as_slice.ensures.value c.as_slice-found.ensures.value c.in_ok-goals.ensures in
    let deep : c.args.followers.now.length ≤ c.args.row.now.depth = omega (arith, ap (λ (r : PlainLiveRow). r.depth) c.row.view_is, c.if-followers-row.true) in
    deep_followed c.args.followers.now.costs.now c.args.followers.now.length live c.args.row.now (members c.args.s.now) c.as_slice-found.result.now tells (c.are_two.ensures.two c.if-not-are_two.false) deep

pub returns : goal.returns
returns g c =
    let live = live_of c.args.followers.now in
    let tells = told_by c.args.followers.now.costs.now live.tables c.as_slice.result.now c.args.row.now (members c.args.s.now) c.in_ok-goals.goals.items c.as_slice-found.result.now c.as_slice.ensures.value c.as_slice-found.ensures.value c.in_ok-goals.ensures in
    let same = ap (λ (r : PlainLiveRow). r.depth) c.row.view_is in
    let low : c.args.row.now.depth < c.args.followers.now.length = omega (arith, same, c.if-followers-row.false) in
    next_followed c.args.followers.now.costs.now c.args.followers.now.length live c.args.row.now (members c.args.s.now) c.as_slice-found.result.now tells c.has.result
    (c.are_two.ensures.two c.if-not-are_two.false) low
    (subst (λ (d : ℕ). IsTrue c.has.result ↔ Any (HasAll c.as_slice-found.result.now (members c.args.s.now) (d + 1)) live.rows) same c.has.ensures)
