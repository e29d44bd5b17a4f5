-- The live rows among which a test seeks those that follow. Only private contracts speak of it.
use Rattle.std.specs.Prelude.{ℕ}
use Rattle.design_certificate.specs.declared.followed.Followers.{Followers}
use Rattle.design_certificate.specs.Live.{PlainLiveRows}

-- the rows that are indexed, with the tables whose bounds are known
abbrev pub live_of : {W : ℕ} → Followers W → PlainLiveRows
live_of followers = record { tables = followers.tables.items; rows = followers.index }
