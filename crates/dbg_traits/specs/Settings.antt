-- The ranges of the settings.
use Rattle.std.specs.Prelude.{ℕ, ◌≤◌}
use Rattle.dbg_traits.specs.declared.settings.Settings.{Settings}

-- a number of harts
abbrev pub AreHarts : ℕ → Type 0
AreHarts n = (1 ≤ n) × (n ≤ 16)

-- each number is in its range
pub record AreSettings (s : Settings) : Type 0 where
  pub harts : AreHarts s.harts
  pub workers : s.workers ≤ 16
  pub slots : s.slots ≤ 512
  pub budget : (1 ≤ s.budget) × (s.budget ≤ 1_000_000_000_000)
  pub slice : s.slice ≤ 1024
