-- The promise: what the clauses of public calls cite of this crate, in the order in which to read it.
-- What is left out serves private contracts alone.

-- The report of costs, and of how long two goals can't be told apart.
pub use Rattle.report_text.specs.Reports.{name_of, plan_text, cost_text, cost_line, cost_lines, cost_report}
pub use Rattle.report_text.specs.Reports.{plan_line, witness_lines, wcd_lines, wcd_report, action_names}
pub use Rattle.report_text.specs.Reports.{IsOver}
