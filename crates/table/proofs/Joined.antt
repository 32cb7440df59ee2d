-- Laws of tests by value. Assumes nothing.
use mathlib.Core.Path.{◌≡◌, ◌∙◌, ap₂}
use mathlib.Core.Bool.{Bool}
use Rattle.logic.specs.Tests.{◌or◌}

pub ored : {a b c d r : Bool} → r ≡ (a or b) → a ≡ c → b ≡ d → r ≡ (c or d)
ored e f g = e ∙ ap₂ ◌or◌ f g
