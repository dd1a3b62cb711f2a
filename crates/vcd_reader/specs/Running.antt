-- A recording, read token by token from what was read before: what the code is proved against. That this
-- is what the definitions say is the law of the reading.
use Rattle.std.specs.Prelude.{◌≡◌, ◌⊎◌, ℕ, Bool, true, false, nat_lt, cond, List, [], ◌∷◌, ◌++◌, length, replicate, slice_index_or, slice_set, drop, Option, None, Some, Result, Ok, Err}
use Rattle.psl_base.specs.Tokens.{PlacedToken, TokensLeft, all_tokens}
use Rattle.psl_base.specs.declared.place.Place.{Place}
use Rattle.vcd_reader.specs.declared.changes.Change.{Change}
use Rattle.vcd_reader.specs.declared.fault.VcdFault.{VcdFault}
use Rattle.vcd_reader.specs.declared.fault.VcdFault.TheVariants.{EndsInside, TooManySignals, NoMemory}
use Rattle.vcd_reader.specs.declared.shape.Shape.{Shape}
use Rattle.vcd_reader.specs.declared.shape.Shape.TheVariants.{Scalar}
use Rattle.vcd_reader.specs.Beginnings.{begins_sample}
use Rattle.vcd_reader.specs.Declarations.{Declared, nothing_declared, signal_at, bits_of, bits_most}
use Rattle.vcd_reader.specs.Labels.{place_of}
use Rattle.vcd_reader.specs.Rules.{rule_at, may_end}
use Rattle.vcd_reader.specs.Shapes.{shape_of}
use Rattle.vcd_reader.specs.Standing.{Told, nothing_told, Part, Defining, Telling, Open, Ready, WantsScopeType, WantsScopeName, WantsScopeEnd, WantsUpscopeEnd, WantsDefinitionsEnd, WantsType, WantsReference, WantsVectorCode, declared_after, part_after, opened_after}

-- what is kept of the body: what was told, of each signal its changes, and how many bytes of the text stand
-- before the token with which each sample begins
pub record Held : Type 0 where
  pub told : Told
  pub changes : List (List Change)
  pub starts : List ℕ

-- nothing yet of so many signals
abbrev pub nothing_held : ℕ → Held
nothing_held signals = record { told = nothing_told; changes = replicate signals []; starts = [] }

-- the changes with one more of a signal
abbrev pub with_change : List (List Change) → ℕ → Change → List (List Change)
with_change changes signal change = slice_set changes signal (slice_index_or changes signal [] ++ change ∷ [])

-- the changes after one of a code's signal, where that is read
abbrev pub changes_with : Declared → List (List Change) → Change → Option ℕ → List (List Change)
changes_with declared changes change None = changes
changes_with declared changes change (Some number) = cond (signal_at declared number).unread changes (with_change changes number change)

abbrev pub changes_by : Declared → Told → List (List Change) → Shape → ℕ → List ℕ → List (List Change)
changes_by declared told changes Scalar at text = changes_with declared changes (record { sample = told.samples; start = at; len = 1 }) (place_of declared.codes (drop 1 text))
changes_by declared told changes shape at text = changes

-- the changes of each signal after a token
abbrev pub changes_after : Declared → Part → List (List Change) → Open → ℕ → List ℕ → List (List Change)
changes_after declared Defining changes WantsDefinitionsEnd at text = replicate (length declared.codes) []
changes_after declared (Telling told) changes Ready at text = changes_by declared told changes (shape_of text) at text
changes_after declared (Telling told) changes (WantsVectorCode start value) at text =
    changes_with declared changes (record { sample = told.samples; start = start; len = length value }) (place_of declared.codes text)
changes_after declared part changes opened at text = changes

-- where samples begin, after a token
abbrev pub starts_after : Part → List ℕ → Open → ℕ → List ℕ → List ℕ
starts_after part starts opened at text = cond (begins_sample part opened text) (starts ++ at ∷ []) starts

-- what is known after the last token
pub record Outcome : Type 0 where
  pub declared : Declared
  pub part : Part
  pub changes : List (List Change)
  pub starts : List ℕ

-- a token's fault, raised at its place, or else what comes later
abbrev pub raised : {A : Type 0} → Option (Place → VcdFault) → Place → Result A VcdFault → Result A VcdFault
raised None place later = later
raised (Some fault) place later = Err (fault place)

-- what tokens say, from what was read before; the text ends at a place
abbrev pub run_to : Place → Declared → Part → List (List Change) → List ℕ → Open → List PlacedToken → Result Outcome VcdFault
run_to end declared part changes starts opened [] =
    cond (may_end part opened) (Ok (record { declared = declared; part = part; changes = changes; starts = starts })) (Err (EndsInside end))
run_to end declared part changes starts opened (t ∷ ts) =
    raised (rule_at declared part opened t.text) t.place
    (run_to end (declared_after declared part opened t.text) (part_after part opened t.text) (changes_after declared part changes opened t.at t.text) (starts_after part starts opened t.at t.text) (opened_after opened t.at t.text) ts)

-- what the tokens say that are left
abbrev pub run : Declared → Part → List (List Change) → List ℕ → Open → TokensLeft → Result Outcome VcdFault
run declared part changes starts opened left = run_to left.end declared part changes starts opened left.tokens

-- the definitions, from what is open there
abbrev pub defining : Declared → Open → TokensLeft → Result Outcome VcdFault
defining declared opened left = run declared Defining [] [] opened left

-- the body, from what is open there
abbrev pub telling : Declared → Held → Open → TokensLeft → Result Outcome VcdFault
telling declared held opened left = run declared (Telling held.told) held.changes held.starts opened left

-- all tokens of a text
abbrev pub run_whole : List ℕ → Result Outcome VcdFault
run_whole bytes = defining nothing_declared Ready (all_tokens bytes)

-- where a reading ends with a fault, the tokens have it; want of memory may come at any time
abbrev pub Halts : VcdFault → Result Outcome VcdFault → Type 0
Halts fault said = (fault ≡ NoMemory) ⊎ (said ≡ Err fault)

-- what is read from here is what is read from there
abbrev pub Goes : {A : Type 0} → Result A VcdFault → Result Outcome VcdFault → Result Outcome VcdFault → Type 0
Goes (Ok value) before after = before ≡ after
Goes (Err fault) before after = Halts fault before

-- the same of a part that takes no memory
abbrev pub GoesOn : {A : Type 0} → Result A VcdFault → Result Outcome VcdFault → Result Outcome VcdFault → Type 0
GoesOn (Ok value) before after = before ≡ after
GoesOn (Err fault) before after = before ≡ Err fault

-- where a `$var` that ends at a place is refused, the bits of all codes pass the limit with it
abbrev pub PassesBits : Place → Declared → VcdFault → Type 0
PassesBits place declared fault = (fault ≡ NoMemory) ⊎ ((fault ≡ TooManySignals place) × (nat_lt bits_most (bits_of declared.signals) ≡ true))

-- a section wants a token there that is not `$end`
abbrev pub wants_part : Open → Bool
wants_part WantsScopeType = true
wants_part WantsScopeName = true
wants_part WantsType = true
wants_part (WantsReference variable) = true
wants_part opened = false

-- a section wants `$end` there
abbrev pub wants_end : Open → Bool
wants_end (WantsScopeEnd name) = true
wants_end WantsUpscopeEnd = true
wants_end WantsDefinitionsEnd = true
wants_end opened = false
