-- The promise: what the clauses of public calls cite of this crate, in the order in which to read it.
-- What is left out serves private contracts alone.

-- What is given of costs, sets by their lists, and what removed actions hide.
pub use Rattle.design_certificate.specs.Designs.{AreCosts, Gives, AreAmong, AreOutside, HidesFor}
-- Witnesses with plans as long as the goals cost.
pub use Rattle.design_certificate.specs.Witnesses.{IsPlanAsLong, IsShownWitness}
-- Live rows, and when they are valid.
pub use Rattle.design_certificate.specs.Live.{PlainLiveRow, GoalTable, PlainLiveRows, BeginsShort, given_from}
pub use Rattle.design_certificate.specs.Live.{HasNumber, StaysLive, Follows, IsFollowed, Begins, IsValidLive}
-- Trees, and when they are valid.
pub use Rattle.design_certificate.specs.Trees.{PlainNamed, PlainLeafTable, PlainNode, PlainNodes, IsValidNamed}
pub use Rattle.design_certificate.specs.Trees.{with_id, firsts_outside, choices, RefuteCost, IsUsable, IsValidLeaf}
pub use Rattle.design_certificate.specs.Trees.{IsValidNode, AreValidChildren, IsValidTree}
pub use Rattle.design_certificate.specs.Nodes.{plain_node}
-- What lies in the range of a task.
pub use Rattle.design_certificate.specs.Ranges.{IsLiveRowOver, IsTableOver, AreLiveRowsOver, IsNamedOver, IsNodeOver, AreNodesOver}
-- The parts of a certificate that show the wcd and the design.
pub use Rattle.design_certificate.specs.Shown.{AreShown, ShowsWcd, ShowsDesign}
-- The design part of a certificate, and when it shows its design.
pub use Rattle.design_certificate.specs.Parts.{PlainWcd, PlainDesign, no_design, plain_design, ArePlansFrom, HasTree}
pub use Rattle.design_certificate.specs.Parts.{IsFirstTree, IsSecondTree, LeavesWcd, IsShownBest, IsShownDesign}
-- The first fault of live rows.
pub use Rattle.design_certificate.specs.LiveFaults.{HaveGoals, IsGoalTable, HasNumbers, IsFollowedOn, IsLeft, NoneBegins}
pub use Rattle.design_certificate.specs.LiveFaults.{RowsFail, NumbersFail, TablesFail, FailsLive, IsLiveFault}
-- The first fault of a tree.
pub use Rattle.design_certificate.specs.TreeFaults.{FailsOr, HasGoals, FailsPlan, FailsBranch, FailsOwn}
pub use Rattle.design_certificate.specs.TreeFaults.{FailsNamed, FailsTable, FailsNode, FailsChildren, IsTreeFault}
