-- The first fault of tokens, as a place among them.
use Rattle.std.specs.Prelude.{◌≡◌, ◌⊎◌, true, false, List, [], ◌∷◌, ◌++◌, None, Some}
use Rattle.psl_base.specs.Tokens.{PlacedToken}
use Rattle.psl_base.specs.declared.place.Place.{Place}
use Rattle.vcd_reader.specs.declared.fault.VcdFault.{VcdFault}
use Rattle.vcd_reader.specs.declared.fault.VcdFault.TheVariants.{EndsInside}
use Rattle.vcd_reader.specs.Meaning.{fault_at, may_end_after}

-- each of the tokens, which stand behind others, has no fault
abbrev pub HaveNone : List PlacedToken → List PlacedToken → Type 0
HaveNone before [] = Unit {0}
HaveNone before (t ∷ ts) = (fault_at before t ≡ None) × HaveNone (before ++ t ∷ []) ts

-- there is no fault, and the tokens may end
abbrev pub IsFaultless : List PlacedToken → Type 0
IsFaultless ts = HaveNone [] ts × (may_end_after ts ≡ true)

-- a token has this fault, and those before it have none
pub record IsOfToken (ts : List PlacedToken) (found : VcdFault) : Type 0 where
  pub before : List PlacedToken
  pub token : PlacedToken
  pub after : List PlacedToken
  pub pieces : ts ≡ before ++ token ∷ after
  pub none : HaveNone [] before
  pub here : fault_at before token ≡ Some found

-- no token has a fault, and the end comes too early, which is this fault
pub record IsOfEnd (end : Place) (ts : List PlacedToken) (found : VcdFault) : Type 0 where
  pub none : HaveNone [] ts
  pub early : may_end_after ts ≡ false
  pub here : EndsInside end ≡ found

-- the first fault of the tokens of a text that ends at a place
abbrev pub IsFirst : Place → List PlacedToken → VcdFault → Type 0
IsFirst end ts found = IsOfToken ts found ⊎ IsOfEnd end ts found
