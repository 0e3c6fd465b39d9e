-- What the functions of a step are given: that no common row refuses it, and the bounds of the state's numbers then.
use Rattle.std.specs.Prelude.{ℕ, ◌%◌, ◌≤◌, ◌≡◌, List}
use Rattle.log_region.specs.Region.{numbers}
use Rattle.model.specs.Refusals.{number_of, common}
use Rattle.state.specs.declared.Machine.{Machine}
use Rattle.state.specs.View.{view, memory}

-- no common row refuses a step of the state that is lent these buffers
abbrev pub Allowed : Machine → List ℕ → List ℕ → List ℕ → Type 0
Allowed s home working log = number_of (common (view s) (memory home working log)) ≡ 0

-- whole lines, of which there are 64 at most, entries in their places, and a tail that is a record's number
pub record Bounded (s : Machine) : Type 0 where
  pub words : s.words ≤ 512
  pub round : s.words % 8 ≡ 0
  pub undos : s.undos.len ≤ 16
  pub redos : s.redos.len ≤ 32
  pub tail : s.tail ≤ numbers
