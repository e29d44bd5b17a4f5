mod NodeRows
mod VerdictRows
