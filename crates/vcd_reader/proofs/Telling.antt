-- The reading token by token, against the walk that collects the events.
use Rattle.std.proofs.Common.{◌≡◌, ℕ, suc, ◌+◌, ◌-◌, ◌<◌, ◌≤◌, Bool, true, false, cond, List, [], ◌∷◌, length, take, drop, replicate, Option, None, Some, is_none, Result, Ok, Err, refl, sym, ap, subst, ◌∙◌, arith, add-one}
use Rattle.std.proofs.lemmas.List.{take-take, length-set, length-replicate}
use Rattle.std.specs.Option.{option_map}
use Rattle.psl_base.proofs.Placing.{IsPlaced, ArePlaced, rest_after}
use Rattle.psl_base.specs.Tokens.{PlacedToken}
use Rattle.psl_base.specs.declared.place.Place.{Place}
use Rattle.vcd_reader.specs.declared.fault.VcdFault.{VcdFault}
use Rattle.vcd_reader.specs.declared.fault.VcdFault.TheVariants.{EndsInside}
use Rattle.vcd_reader.specs.declared.shape.Shape.{Shape}
use Rattle.vcd_reader.specs.declared.shape.Shape.TheVariants.{End, Comment, Header, Scope, Upscope, Var, EndDefinitions, Dump, Unknown, Time, Vector, Unread, Scalar, Other}
use Rattle.vcd_reader.specs.declared.changes.Change.{Change}
use Rattle.vcd_reader.proofs.Holding.{State, Holds, ChangeComes, Step, Stays, Passes, Puts, one_more, no_more}
use Rattle.vcd_reader.proofs.Places.{place_of-within}
use Rattle.vcd_reader.proofs.Saying.{Said, more, walk}
use Rattle.vcd_reader.proofs.Shaped.{vector-long, vector-some, scalar-some}
use Rattle.vcd_reader.specs.Declarations.{Declared, signal_at}
use Rattle.vcd_reader.specs.Events.{Event, At, Gets}
use Rattle.vcd_reader.specs.Labels.{place_of}
use Rattle.vcd_reader.specs.Meaning.{fault_at_end, unless}
use Rattle.vcd_reader.specs.Rules.{rule_at, may_end, is_strange_change, of_time, is_lower, changes_unknown, is_past_samples, is_unknown_keyword, is_missing_end, is_bad_var, differs_in_size, is_scope_not_open, is_bad_time, is_falling, is_undeclared, is_bad_value, is_too_long, is_early, begins_too_many}
use Rattle.vcd_reader.specs.Running.{run_to, raised, Outcome, changes_with, changes_by, starts_after, with_change}
use Rattle.vcd_reader.specs.Shapes.{shape_of, is_end}
use Rattle.vcd_reader.specs.Changes.{letters_in}
use Rattle.vcd_reader.specs.Standing.{Told, nothing_told, Part, Defining, Telling, Open, Ready, InComment, WantsDefinitionsEnd, WantsVectorCode, WantsUnreadCode, time_of, opened_by, opened_after, defined_after, told_by, told_time, told_event, change_of}

abbrev pub state_of : Told → List (List Change) → State
state_of told changes = record { last = told.last; samples = told.samples; changes = changes }

abbrev pub told_in : Part → Told
told_in Defining = nothing_told
told_in (Telling told) = told

abbrev pub state_in : Outcome → State
state_in out = state_of (told_in out.part) out.changes

-- what stands in the text of a change whose code is wanted; a section of the definitions is not open
abbrev IsSet : List ℕ → Open → Type 0
IsSet bytes Ready = Unit {0}
IsSet bytes InComment = Unit {0}
IsSet bytes WantsUnreadCode = Unit {0}
IsSet bytes (WantsVectorCode start value) = (0 < length value) × (start + length value ≤ length bytes) × (take (length value) (drop start bytes) ≡ value)
IsSet bytes opened = ⊥

none_of : (a : Bool) (x : Place → VcdFault) (rest : Option (Place → VcdFault)) → cond a (Some x) rest ≡ None → (a ≡ false) × (rest ≡ None)
none_of true x rest none = absurd (let wrong : Some x ≡ None = none in cc)
none_of false x rest none = (refl, none)

-- what is so where a token has no fault
record Passed (d : Declared) (p : Part) (o : Open) (text : List ℕ) : Type 0 where
  keyword : is_unknown_keyword p o text ≡ false
  time : is_bad_time p o text ≡ false
  steady : is_falling p o text ≡ false
  declared : is_undeclared d p o text ≡ false
  few : begins_too_many p o text ≡ false

passed : (d : Declared) (p : Part) (o : Open) (text : List ℕ) → rule_at d p o text ≡ None → Passed d p o text
passed d p o text none =
    let keyword = none_of (is_unknown_keyword p o text) _ _ none in
    let end = none_of (is_missing_end p o text) _ _ keyword.1 in
    let var = none_of (is_bad_var o text) _ _ end.1 in
    let size = none_of (differs_in_size d o text) _ _ var.1 in
    let scope = none_of (is_scope_not_open d p o text) _ _ size.1 in
    let time = none_of (is_bad_time p o text) _ _ scope.1 in
    let steady = none_of (is_falling p o text) _ _ time.1 in
    let declared = none_of (is_undeclared d p o text) _ _ steady.1 in
    let value = none_of (is_bad_value p o text) _ _ declared.1 in
    let long = none_of (is_too_long d o text) _ _ value.1 in
    let early = none_of (is_early p o text) _ _ long.1 in
    let few = none_of (begins_too_many p o text) _ _ early.1 in
    record { keyword = keyword.0; time = time.0; steady = steady.0; declared = declared.0; few = few.0 }

by_unread : (bytes : List ℕ) (told : Told) (changes : List (List Change)) (value : List ℕ) (change : Change) (number : ℕ) (unread : Bool) → ChangeComes bytes (state_of told changes) number value change →
    Step bytes (state_of told changes) (cond unread None (Some (Gets number value))) (state_of told (cond unread changes (with_change changes number change)))
by_unread bytes told changes value change number true comes = Stays
by_unread bytes told changes value change number false comes = Puts number value change comes

-- a change of a code that is declared
change_step : (bytes : List ℕ) (d : Declared) (told : Told) (changes : List (List Change)) (value code : List ℕ) (start len : ℕ) (place : Option ℕ) → place_of d.codes code ≡ place → is_none place ≡ false → length changes ≡ length d.codes →
    letters_in bytes (record { sample = told.samples; start = start; len = len }) ≡ value → 0 < len → start + len ≤ length bytes →
    Step bytes (state_of told changes) (change_of d value place) (state_of told (changes_with d changes (record { sample = told.samples; start = start; len = len }) place))
change_step bytes d told changes value code start len None found declared count letters some within = absurd (let wrong : true ≡ false = declared in cc)
change_step bytes d told changes value code start len (Some number) found declared count letters some within =
    let low = place_of-within d.codes code number found in
    by_unread bytes told changes value (record { sample = told.samples; start = start; len = len }) number (signal_at d number).unread
    (record { declared = omega (arith, low, count); samples = refl; letters = letters; some = some; within = within })

-- the letters of a change that stand at a place
letters_at : (bytes value : List ℕ) (samples start len : ℕ) → take len (drop start bytes) ≡ value → letters_in bytes (record { sample = samples; start = start; len = len }) ≡ value
letters_at bytes value samples start len here = let count : start + len - start ≡ len = omega arith in rw count here

-- the first byte of a token
front : (bytes : List ℕ) (t : PlacedToken) → IsPlaced bytes t → 0 < length t.text → take 1 (drop t.at bytes) ≡ take 1 t.text
front bytes t placed some = sym (take-take 1 (length t.text) (drop t.at bytes) (omega arith)) ∙ ap (take 1) placed.same

-- the bytes behind it
behind : (bytes rest ys : List ℕ) (first at : ℕ) → drop at bytes ≡ ys → take (suc (length rest)) ys ≡ first ∷ rest → take (length rest) (drop (at + 1) bytes) ≡ rest
behind bytes rest [] first at here same = absurd (let wrong : [] ≡ first ∷ rest = same in cc)
behind bytes rest (b ∷ bs) first at here same =
    let tail : take (length rest) bs ≡ rest = let all : b ∷ take (length rest) bs ≡ first ∷ rest = same in cc in
    let later : drop (at + 1) bytes ≡ bs = rw add-one (rest_after bytes bs b at here) in
    rw later tail

some_scalar : (text : List ℕ) → shape_of text ≡ Scalar → 0 < length text
some_scalar [] is = absurd (scalar-some is)
some_scalar (x ∷ xs) is = omega arith

vector_set : (bytes : List ℕ) (t : PlacedToken) (text : List ℕ) → t.text ≡ text → IsPlaced bytes t → shape_of text ≡ Vector → IsSet bytes (WantsVectorCode (t.at + 1) (drop 1 text))
vector_set bytes t [] here placed is = absurd (vector-some is)
vector_set bytes t (first ∷ rest) here placed is =
    let sized : length t.text ≡ suc (length rest) = ap length here in
    let end = placed.within in
    let same : take (suc (length rest)) (drop t.at bytes) ≡ first ∷ rest = ap (λ (n : ℕ). take n (drop t.at bytes)) (sym sized) ∙ placed.same ∙ here in
    (vector-long first rest is, omega (arith, end, sized), behind bytes rest (drop t.at bytes) first t.at refl same)

by_time : (bytes : List ℕ) (told : Told) (changes : List (List Change)) (time : Option ℕ) → is_none time ≡ false → is_lower told time ≡ false → is_past_samples told time ≡ false →
    Step bytes (state_of told changes) (option_map At time) (state_of (told_time told time) changes)
by_time bytes told changes None there steady few = absurd (let wrong : true ≡ false = there in cc)
by_time bytes told changes (Some time) there steady few = Passes time (record { steady = steady; few = few })

-- what a token says where nothing is open
by_shape : (bytes : List ℕ) (d : Declared) (told : Told) (changes : List (List Change)) (t : PlacedToken) (shape : Shape) → shape_of t.text ≡ shape → IsPlaced bytes t → length changes ≡ length d.codes →
    of_time is_none shape t.text ≡ false → of_time (is_lower told) shape t.text ≡ false → changes_unknown d shape t.text ≡ false → of_time (is_past_samples told) shape t.text ≡ false →
    Step bytes (state_of told changes) (told_event d shape t.text) (state_of (told_by told shape t.text) (changes_by d told changes shape t.at t.text))
by_shape bytes d told changes t Time is placed count there steady declared few = by_time bytes told changes (time_of t.text) there steady few
by_shape bytes d told changes t Scalar is placed count there steady declared few =
    let some = some_scalar t.text is in
    let end = placed.within in
    change_step bytes d told changes (take 1 t.text) (drop 1 t.text) t.at 1 (place_of d.codes (drop 1 t.text)) refl declared count
    (letters_at bytes (take 1 t.text) told.samples t.at 1 (front bytes t placed some)) (omega arith) (omega (arith, some, end))
by_shape bytes d told changes t shape is placed count there steady declared few = Stays

set_by : (bytes : List ℕ) (told : Told) (t : PlacedToken) (shape : Shape) → shape_of t.text ≡ shape → IsPlaced bytes t → is_strange_change told.in_block shape ≡ false → IsSet bytes (opened_by shape t.at t.text)
set_by bytes told t Vector is placed known = vector_set bytes t t.text refl placed is
set_by bytes told t Comment is placed known = tt
set_by bytes told t Unread is placed known = tt
set_by bytes told t End is placed known = tt
set_by bytes told t Dump is placed known = tt
set_by bytes told t Time is placed known = tt
set_by bytes told t Scalar is placed known = tt
set_by bytes told t Other is placed known = tt
set_by bytes told t Unknown is placed known = absurd (let wrong : true ≡ false = known in cc)
set_by bytes told t Header is placed known = absurd (let wrong : true ≡ false = known in cc)
set_by bytes told t Scope is placed known = absurd (let wrong : true ≡ false = known in cc)
set_by bytes told t Upscope is placed known = absurd (let wrong : true ≡ false = known in cc)
set_by bytes told t Var is placed known = absurd (let wrong : true ≡ false = known in cc)
set_by bytes told t EndDefinitions is placed known = absurd (let wrong : true ≡ false = known in cc)

set_comment : (bytes : List ℕ) (ended : Bool) → IsSet bytes (cond ended Ready InComment)
set_comment bytes true = tt
set_comment bytes false = tt

-- both readings have the same fault, or what is held is that of the events
abbrev Agree : List ℕ → Declared → State → Said → Result Outcome VcdFault → Type 0
Agree bytes d old (Ok said) (Ok out) = (said.0.declared ≡ d) × (out.declared ≡ d) × Holds bytes old said.1 (state_in out)
Agree bytes d old (Ok said) (Err fault) = ⊥
Agree bytes d old (Err fault) (Ok out) = ⊥
Agree bytes d old (Err fault) (Err same) = fault ≡ same

agree_more : (bytes : List ℕ) (d : Declared) (old next : State) (event : Option Event) (said : Said) (out : Result Outcome VcdFault) → Step bytes old event next → Agree bytes d next said out → Agree bytes d old (more event said) out
agree_more bytes d old next event (Ok said) (Ok out) step agree = (agree.0, agree.1, one_more bytes old event next said.1 (state_in out) step agree.2)
agree_more bytes d old next event (Ok said) (Err fault) step agree = agree
agree_more bytes d old next event (Err fault) (Ok out) step agree = agree
agree_more bytes d old next event (Err fault) (Err same) step agree = agree

agree_rule : (bytes : List ℕ) (d : Declared) (old : State) (rule : Option (Place → VcdFault)) (place : Place) (said : Said) (out : Result Outcome VcdFault) → (rule ≡ None → Agree bytes d old said out) → Agree bytes d old (raised rule place said) (raised rule place out)
agree_rule bytes d old None place said out agree = agree refl
agree_rule bytes d old (Some broken) place said out agree = refl

agree_end : (end : Place) (bytes : List ℕ) (d : Declared) (told : Told) (changes : List (List Change)) (starts : List ℕ) (opened : Open) (may : Bool) →
    Agree bytes d (state_of told changes) (unless (fault_at_end end may) (record { declared = d; part = Telling told; opened = opened }, [])) (cond may (Ok (record { declared = d; part = Telling told; changes = changes; starts = starts })) (Err (EndsInside end)))
agree_end end bytes d told changes starts opened true = (refl, refl, no_more bytes (state_of told changes))
agree_end end bytes d told changes starts opened false = refl

by_count : (unread : Bool) (changes : List (List Change)) (change : Change) (number : ℕ) → length (cond unread changes (with_change changes number change)) ≡ length changes
by_count true changes change number = refl
by_count false changes change number = length-set changes number _

changes_count : (d : Declared) (changes : List (List Change)) (change : Change) (place : Option ℕ) → length (changes_with d changes change place) ≡ length changes
changes_count d changes change None = refl
changes_count d changes change (Some number) = by_count (signal_at d number).unread changes change number

changes_by-count : (d : Declared) (told : Told) (changes : List (List Change)) (shape : Shape) (at : ℕ) (text : List ℕ) → length (changes_by d told changes shape at text) ≡ length changes
changes_by-count d told changes Scalar at text = changes_count d changes _ (place_of d.codes (drop 1 text))
changes_by-count d told changes shape at text = refl

-- the body
telling_agrees : (end : Place) (bytes : List ℕ) (d : Declared) (told : Told) (changes : List (List Change)) (starts : List ℕ) (o : Open) (ts : List PlacedToken) → ArePlaced bytes ts → IsSet bytes o → length changes ≡ length d.codes →
    Agree bytes d (state_of told changes) (walk end (record { declared = d; part = Telling told; opened = o }) ts) (run_to end d (Telling told) changes starts o ts)
telling_agrees end bytes d told changes starts o [] placed set count = agree_end end bytes d told changes starts o (may_end (Telling told) o)
telling_agrees end bytes d told changes starts Ready (t ∷ ts) placed set count =
    agree_rule bytes d (state_of told changes) (rule_at d (Telling told) Ready t.text) t.place _ _
    (λ none. let fine = passed d (Telling told) Ready t.text none in
    agree_more bytes d (state_of told changes) _ _ _ _
    (by_shape bytes d told changes t (shape_of t.text) refl placed.0 count fine.time fine.steady fine.declared fine.few)
    (telling_agrees end bytes d (told_by told (shape_of t.text) t.text) (changes_by d told changes (shape_of t.text) t.at t.text) (starts_after (Telling told) starts Ready t.at t.text) (opened_by (shape_of t.text) t.at t.text) ts placed.1
    (set_by bytes told t (shape_of t.text) refl placed.0 fine.keyword) (changes_by-count d told changes (shape_of t.text) t.at t.text ∙ count)))
telling_agrees end bytes d told changes starts InComment (t ∷ ts) placed set count =
    agree_rule bytes d (state_of told changes) (rule_at d (Telling told) InComment t.text) t.place _ _
    (λ none. agree_more bytes d (state_of told changes) (state_of told changes) None _ _ Stays
    (telling_agrees end bytes d told changes starts (cond (is_end t.text) Ready InComment) ts placed.1 (set_comment bytes (is_end t.text)) count))
telling_agrees end bytes d told changes starts WantsUnreadCode (t ∷ ts) placed set count =
    agree_rule bytes d (state_of told changes) (rule_at d (Telling told) WantsUnreadCode t.text) t.place _ _
    (λ none. agree_more bytes d (state_of told changes) (state_of told changes) None _ _ Stays (telling_agrees end bytes d told changes starts Ready ts placed.1 tt count))
telling_agrees end bytes d told changes starts (WantsVectorCode start value) (t ∷ ts) placed set count =
    agree_rule bytes d (state_of told changes) (rule_at d (Telling told) (WantsVectorCode start value) t.text) t.place _ _
    (λ none. let fine = passed d (Telling told) (WantsVectorCode start value) t.text none in
    agree_more bytes d (state_of told changes) _ _ _ _
    (change_step bytes d told changes value t.text start (length value) (place_of d.codes t.text) refl fine.declared count (letters_at bytes value told.samples start (length value) set.2) set.0 set.1)
    (telling_agrees end bytes d told (changes_with d changes (record { sample = told.samples; start = start; len = length value }) (place_of d.codes t.text)) starts Ready ts placed.1 tt (changes_count d changes _ (place_of d.codes t.text) ∙ count)))
telling_agrees end bytes d told changes starts o (t ∷ ts) placed set count = absurd set

-- what is held of the whole, from its first token on
abbrev pub AgreeWhole : List ℕ → Said → Result Outcome VcdFault → Type 0
AgreeWhole bytes (Ok said) (Ok out) = (out.declared ≡ said.0.declared) × Holds bytes (state_of nothing_told (replicate (length said.0.declared.codes) [])) said.1 (state_in out)
AgreeWhole bytes (Ok said) (Err fault) = ⊥
AgreeWhole bytes (Err fault) (Ok out) = ⊥
AgreeWhole bytes (Err fault) (Err same) = fault ≡ same

agree_begins : (bytes : List ℕ) (d : Declared) (said : Said) (out : Result Outcome VcdFault) → Agree bytes d (state_of nothing_told (replicate (length d.codes) [])) said out → AgreeWhole bytes said out
agree_begins bytes d (Ok said) (Ok out) agree =
    (agree.1 ∙ sym agree.0, subst (λ (known : Declared). Holds bytes (state_of nothing_told (replicate (length known.codes) [])) said.1 (state_in out)) (sym agree.0) agree.2)
agree_begins bytes d (Ok said) (Err fault) agree = agree
agree_begins bytes d (Err fault) (Ok out) agree = agree
agree_begins bytes d (Err fault) (Err same) agree = agree

agree_none : (bytes : List ℕ) (said : Said) (out : Result Outcome VcdFault) → AgreeWhole bytes said out → AgreeWhole bytes (more None said) out
agree_none bytes (Ok said) (Ok out) agree = agree
agree_none bytes (Ok said) (Err fault) agree = agree
agree_none bytes (Err fault) (Ok out) agree = agree
agree_none bytes (Err fault) (Err same) agree = agree

agree_if : (bytes : List ℕ) (rule : Option (Place → VcdFault)) (place : Place) (said : Said) (out : Result Outcome VcdFault) → AgreeWhole bytes said out → AgreeWhole bytes (raised rule place said) (raised rule place out)
agree_if bytes None place said out agree = agree
agree_if bytes (Some broken) place said out agree = refl

-- the definitions, and then the body
pub defining_agrees : (end : Place) (bytes : List ℕ) (d : Declared) (o : Open) (ts : List PlacedToken) → ArePlaced bytes ts → AgreeWhole bytes (walk end (record { declared = d; part = Defining; opened = o }) ts) (run_to end d Defining [] [] o ts)
defining_agrees end bytes d o [] placed = refl
defining_agrees end bytes d WantsDefinitionsEnd (t ∷ ts) placed =
    agree_if bytes (rule_at d Defining WantsDefinitionsEnd t.text) t.place _ _
    (agree_none bytes _ _ (agree_begins bytes d _ _ (telling_agrees end bytes d nothing_told (replicate (length d.codes) []) [] Ready ts placed.1 tt (length-replicate (length d.codes) []))))
defining_agrees end bytes d o (t ∷ ts) placed =
    agree_if bytes (rule_at d Defining o t.text) t.place _ _ (agree_none bytes _ _ (defining_agrees end bytes (defined_after d o t.text) (opened_after o t.at t.text) ts placed.1))
