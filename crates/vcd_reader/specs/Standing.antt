-- What the tokens before a token have said: what was declared, which part of the text is read, and what
-- was begun there and has not ended (IEEE 1364, clause 18.2).
use Rattle.std.specs.Prelude.{ℕ, ◌+◌, ◌-◌, ◌^◌, Bool, true, false, cond, List, ◌++◌, take, drop, Option, None, Some, unwrap_or}
use Rattle.std.specs.List.{fold}
use Rattle.std.specs.Option.{option_map}
use Rattle.psl_base.specs.Decimals.{decimal_upto}
use Rattle.psl_base.specs.Tokens.{PlacedToken}
use Rattle.vcd_reader.specs.declared.shape.Shape.{Shape}
use Rattle.vcd_reader.specs.declared.shape.Shape.TheVariants.{End, Comment, Header, Scope, Upscope, Var, EndDefinitions, Dump, Unknown, Time, Vector, Unread, Scalar, Other}
use Rattle.vcd_reader.specs.Declarations.{Declared, Variable, nothing_declared, declared_with, with_scope, without_scope, signal_at, is_unread_type, size_most}
use Rattle.vcd_reader.specs.Events.{Event, At, Gets, is_last}
use Rattle.vcd_reader.specs.Labels.{place_of}
use Rattle.vcd_reader.specs.Shapes.{shape_of, is_end}

-- the last time, how many samples were begun, and whether a block of changes is open
pub record Told : Type 0 where
  pub last : Option ℕ
  pub samples : ℕ
  pub in_block : Bool

abbrev pub nothing_told : Told
nothing_told = record { last = None; samples = 0; in_block = false }

-- the part of the text: the definitions, or the body and what it told
pub data Part : Type 0 where
  Defining : Part
  Telling : Told → Part

-- what is open: nothing, so that a section or a change is wanted; a section, by the token that it wants
-- next; or a change whose code is wanted. The letters of a vector begin behind so many bytes of the text.
pub data Open : Type 0 where
  Ready : Open
  InComment : Open
  WantsScopeType : Open
  WantsScopeName : Open
  WantsScopeEnd : List ℕ → Open
  WantsUpscopeEnd : Open
  WantsDefinitionsEnd : Open
  WantsType : Open
  WantsSize : Bool → Open
  WantsCode : Bool → ℕ → Open
  WantsReference : Variable → Open
  InReference : Variable → List ℕ → Open
  WantsVectorCode : ℕ → List ℕ → Open
  WantsUnreadCode : Open

-- the highest time
abbrev pub time_most : ℕ
time_most = 2 ^ 64 - 1

-- the number behind `#`
abbrev pub time_of : List ℕ → Option ℕ
time_of text = decimal_upto time_most (drop 1 text)

abbrev pub size_of : List ℕ → Option ℕ
size_of text = decimal_upto size_most text

-- what a token opens where nothing is open
abbrev pub opened_by : Shape → ℕ → List ℕ → Open
opened_by Comment at text = InComment
opened_by Header at text = InComment
opened_by Scope at text = WantsScopeType
opened_by Upscope at text = WantsUpscopeEnd
opened_by EndDefinitions at text = WantsDefinitionsEnd
opened_by Var at text = WantsType
opened_by Vector at text = WantsVectorCode (at + 1) (drop 1 text)
opened_by Unread at text = WantsUnreadCode
opened_by End at text = Ready
opened_by Dump at text = Ready
opened_by Unknown at text = Ready
opened_by Time at text = Ready
opened_by Scalar at text = Ready
opened_by Other at text = Ready

-- what is open after a token, which stands there
abbrev pub opened_after : Open → ℕ → List ℕ → Open
opened_after Ready at text = opened_by (shape_of text) at text
opened_after InComment at text = cond (is_end text) Ready InComment
opened_after WantsScopeType at text = WantsScopeName
opened_after WantsScopeName at text = WantsScopeEnd text
opened_after (WantsScopeEnd name) at text = Ready
opened_after WantsUpscopeEnd at text = Ready
opened_after WantsDefinitionsEnd at text = Ready
opened_after WantsType at text = WantsSize (is_unread_type text)
opened_after (WantsSize unread) at text = WantsCode unread (unwrap_or (size_of text) 0)
opened_after (WantsCode unread size) at text = WantsReference (record { unread = unread; size = size; code = text })
opened_after (WantsReference variable) at text = InReference variable text
opened_after (InReference variable joined) at text = cond (is_end text) Ready (InReference variable (joined ++ text))
opened_after (WantsVectorCode start value) at text = Ready
opened_after WantsUnreadCode at text = Ready

-- what is declared after a token of the definitions
abbrev pub defined_after : Declared → Open → List ℕ → Declared
defined_after declared (WantsScopeEnd name) text = with_scope declared name
defined_after declared WantsUpscopeEnd text = without_scope declared
defined_after declared (InReference variable joined) text = cond (is_end text) (declared_with declared variable joined) declared
defined_after declared opened text = declared

abbrev pub declared_after : Declared → Part → Open → List ℕ → Declared
declared_after declared Defining opened text = defined_after declared opened text
declared_after declared (Telling told) opened text = declared

-- a time more: one that equals the last begins no sample
abbrev pub told_time : Told → Option ℕ → Told
told_time told None = told
told_time told (Some time) = record told { last = Some time; samples = cond (is_last told.last time) told.samples (told.samples + 1) }

abbrev pub told_by : Told → Shape → List ℕ → Told
told_by told Time text = told_time told (time_of text)
told_by told Dump text = record told { in_block = true }
told_by told End text = record told { in_block = false }
told_by told shape text = told

-- the part after a token
abbrev pub part_after : Part → Open → List ℕ → Part
part_after Defining WantsDefinitionsEnd text = Telling nothing_told
part_after (Telling told) Ready text = Telling (told_by told (shape_of text) text)
part_after part opened text = part

-- a change of a code's signal, where that is read
abbrev pub change_of : Declared → List ℕ → Option ℕ → Option Event
change_of declared value None = None
change_of declared value (Some number) = cond (signal_at declared number).unread None (Some (Gets number value))

abbrev pub told_event : Declared → Shape → List ℕ → Option Event
told_event declared Time text = option_map At (time_of text)
told_event declared Scalar text = change_of declared (take 1 text) (place_of declared.codes (drop 1 text))
told_event declared shape text = None

-- the event that a token of the body says, where it says one
abbrev pub event_of : Declared → Part → Open → List ℕ → Option Event
event_of declared (Telling told) Ready text = told_event declared (shape_of text) text
event_of declared (Telling told) (WantsVectorCode start value) text = change_of declared value (place_of declared.codes text)
event_of declared part opened text = None

pub record Standing : Type 0 where
  pub declared : Declared
  pub part : Part
  pub opened : Open

-- before the first token
abbrev pub at_first : Standing
at_first = record { declared = nothing_declared; part = Defining; opened = Ready }

abbrev pub standing_after : Standing → PlacedToken → Standing
standing_after standing t = record {
  declared = declared_after standing.declared standing.part standing.opened t.text;
  part = part_after standing.part standing.opened t.text;
  opened = opened_after standing.opened t.at t.text;
}

-- what some tokens say, from the first one on
abbrev pub standing_by : List PlacedToken → Standing
standing_by tokens = fold standing_after at_first tokens
