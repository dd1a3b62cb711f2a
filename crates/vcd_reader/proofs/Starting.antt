-- Where samples begin, by what is read token by token.
use Rattle.std.proofs.Common.{◌≡◌, ℕ, suc, ◌+◌, ◌≤◌, Bool, true, false, not, cond, List, [], ◌∷◌, ◌++◌, map, length, Option, None, Some, Result, Ok, Err, refl, sym, ap, ◌∙◌, arith, append_assoc}
use Rattle.std.proofs.lemmas.List.{append-nil}
use Rattle.std.proofs.lemmas.List.Elements.{All-nil, All-cons}
use Rattle.std.proofs.lemmas.List.Sums.{fold_push}
use Rattle.std.specs.List.{All}
use Rattle.psl_base.proofs.Placing.{ArePlaced}
use Rattle.psl_base.specs.Bytes.{is_white}
use Rattle.psl_base.specs.Places.{place_at}
use Rattle.psl_base.specs.Tokens.{PlacedToken, token_at, begins_token, onto_first, tokens_from, tokens}
use Rattle.psl_base.specs.declared.place.Place.{Place}
use Rattle.vcd_reader.specs.declared.changes.Change.{Change}
use Rattle.vcd_reader.specs.declared.fault.VcdFault.{VcdFault}
use Rattle.vcd_reader.specs.declared.fault.VcdFault.TheVariants.{EndsInside}
use Rattle.vcd_reader.specs.declared.shape.Shape.{Shape}
use Rattle.vcd_reader.specs.declared.shape.Shape.TheVariants.{Time}
use Rattle.vcd_reader.proofs.Telling.{told_in}
use Rattle.vcd_reader.specs.Beginnings.{is_further, begins_sample}
use Rattle.vcd_reader.specs.Declarations.{Declared}
use Rattle.vcd_reader.specs.Events.{is_last}
use Rattle.vcd_reader.specs.Meaning.{begins_after, places_after}
use Rattle.vcd_reader.specs.Rules.{rule_at, may_end, of_time}
use Rattle.vcd_reader.specs.Running.{Outcome, raised, run_to, changes_after, starts_after}
use Rattle.vcd_reader.specs.Shapes.{shape_of}
use Rattle.vcd_reader.specs.Standing.{Told, Part, Defining, Telling, Open, Ready, WantsDefinitionsEnd, Standing, at_first, standing_after, standing_by, declared_after, part_after, opened_after, told_by, told_time, time_of}

-- the tokens with which samples begin, from what is open there
abbrev pub begun : Part → Open → List PlacedToken → List PlacedToken
begun p o [] = []
begun p o (t ∷ ts) = cond (begins_sample p o t.text) (t ∷ begun (part_after p o t.text) (opened_after o t.at t.text) ts) (begun (part_after p o t.text) (opened_after o t.at t.text) ts)

abbrev pub offsets : List PlacedToken → List ℕ
offsets ts = map (λ (t : PlacedToken). t.at) ts

-- ---- what is kept of them

no_fault : (rule : Option (Place → VcdFault)) (place : Place) (later : Result Outcome VcdFault) (out : Outcome) → raised rule place later ≡ Ok out → later ≡ Ok out
no_fault None place later out read = read
no_fault (Some fault) place later out read = absurd (let wrong : Err (fault place) ≡ Ok out = read in cc)

ended : (may : Bool) (said out : Outcome) (fault : VcdFault) → cond may (Ok said) (Err fault) ≡ Ok out → said ≡ out
ended true said out fault read = cc
ended false said out fault read = absurd (let wrong : Err fault ≡ Ok out = read in cc)

one_more : (begins : Bool) (starts all : List ℕ) (t : PlacedToken) (later : List PlacedToken) → all ≡ cond begins (starts ++ t.at ∷ []) starts ++ offsets later → all ≡ starts ++ offsets (cond begins (t ∷ later) later)
one_more true starts all t later here = here ∙ append_assoc starts (t.at ∷ []) (offsets later)
one_more false starts all t later here = here

pub run-starts : (end : Place) (d : Declared) (p : Part) (changes : List (List Change)) (starts : List ℕ) (o : Open) (ts : List PlacedToken) (out : Outcome) → run_to end d p changes starts o ts ≡ Ok out → out.starts ≡ starts ++ offsets (begun p o ts)
run-starts end d p changes starts o [] out read =
    sym (ap (λ (said : Outcome). said.starts) (ended (may_end p o) (record { declared = d; part = p; changes = changes; starts = starts }) out (EndsInside end) read)) ∙ sym (append-nil starts)
run-starts end d p changes starts o (t ∷ ts) out read =
    one_more (begins_sample p o t.text) starts out.starts t (begun (part_after p o t.text) (opened_after o t.at t.text) ts)
    (run-starts end (declared_after d p o t.text) (part_after p o t.text) (changes_after d p changes o t.at t.text) (starts_after p starts o t.at t.text) (opened_after o t.at t.text) ts out
    (no_fault (rule_at d p o t.text) t.place _ out read))

-- ---- one for each sample

by_last : (same : Bool) (samples : ℕ) → cond same samples (samples + 1) ≡ cond (not same) (samples + 1) samples
by_last true samples = refl
by_last false samples = refl

time_counts : (told : Told) (time : Option ℕ) → (told_time told time).samples ≡ cond (is_further told time) (told.samples + 1) told.samples
time_counts told None = refl
time_counts told (Some time) = by_last (is_last told.last time) told.samples

told_counts : (told : Told) (shape : Shape) (text : List ℕ) → (told_by told shape text).samples ≡ cond (of_time (is_further told) shape text) (told.samples + 1) told.samples
told_counts told Time text = time_counts told (time_of text)
told_counts told shape text = refl

part_counts : (p : Part) (o : Open) (text : List ℕ) → (told_in (part_after p o text)).samples ≡ cond (begins_sample p o text) ((told_in p).samples + 1) (told_in p).samples
part_counts (Telling told) Ready text = told_counts told (shape_of text) text
part_counts (Telling told) o text = refl
part_counts Defining WantsDefinitionsEnd text = refl
part_counts Defining o text = refl

one_counts : (begins : Bool) (before now all : ℕ) (t : PlacedToken) (later : List PlacedToken) → now ≡ cond begins (before + 1) before → all ≡ now + length later → all ≡ before + length (cond begins (t ∷ later) later)
one_counts true before now all t later here rest = omega (arith, here, rest)
one_counts false before now all t later here rest = omega (arith, here, rest)

pub run-samples : (end : Place) (d : Declared) (p : Part) (changes : List (List Change)) (starts : List ℕ) (o : Open) (ts : List PlacedToken) (out : Outcome) → run_to end d p changes starts o ts ≡ Ok out → (told_in out.part).samples ≡ (told_in p).samples + length (begun p o ts)
run-samples end d p changes starts o [] out read =
    let same = ap (λ (said : Outcome). (told_in said.part).samples) (ended (may_end p o) (record { declared = d; part = p; changes = changes; starts = starts }) out (EndsInside end) read) in
    omega (arith, same)
run-samples end d p changes starts o (t ∷ ts) out read =
    one_counts (begins_sample p o t.text) (told_in p).samples (told_in (part_after p o t.text)).samples (told_in out.part).samples t (begun (part_after p o t.text) (opened_after o t.at t.text) ts)
    (part_counts p o t.text)
    (run-samples end (declared_after d p o t.text) (part_after p o t.text) (changes_after d p changes o t.at t.text) (starts_after p starts o t.at t.text) (opened_after o t.at t.text) ts out
    (no_fault (rule_at d p o t.text) t.place _ out read))

-- ---- within the text

one_within : (bytes : List ℕ) (begins : Bool) (t : PlacedToken) (later : List PlacedToken) → t.at ≤ length bytes → All (λ start. start ≤ length bytes) (offsets later) → All (λ start. start ≤ length bytes) (offsets (cond begins (t ∷ later) later))
one_within bytes true t later here rest = All-cons (λ start. start ≤ length bytes) t.at (offsets later) here rest
one_within bytes false t later here rest = rest

pub begun-within : (bytes : List ℕ) (p : Part) (o : Open) (ts : List PlacedToken) → ArePlaced bytes ts → All (λ start. start ≤ length bytes) (offsets (begun p o ts))
begun-within bytes p o [] placed = All-nil (λ start. start ≤ length bytes)
begun-within bytes p o (t ∷ ts) placed =
    let end = placed.0.within in
    one_within bytes (begins_sample p o t.text) t (begun (part_after p o t.text) (opened_after o t.at t.text) ts) (omega (arith, end)) (begun-within bytes (part_after p o t.text) (opened_after o t.at t.text) ts placed.1)

-- ---- their places

-- each token has the place of its first byte
abbrev AreAt : List ℕ → List PlacedToken → Type 0
AreAt bytes [] = Unit {0}
AreAt bytes (t ∷ ts) = (t.place ≡ place_at bytes t.at) × AreAt bytes ts

at_onto : (bytes : List ℕ) (at b : ℕ) (ts : List PlacedToken) → AreAt bytes ts → AreAt bytes (onto_first bytes at b ts)
at_onto bytes at b [] placed = tt
at_onto bytes at b (t ∷ ts) placed = (refl, placed.1)

at_byte : (bytes : List ℕ) (at b : ℕ) (ts : List PlacedToken) (white begins : Bool) → AreAt bytes ts → AreAt bytes (cond white ts (cond begins (onto_first bytes at b ts) (token_at bytes at (b ∷ []) ∷ ts)))
at_byte bytes at b ts true begins placed = placed
at_byte bytes at b ts false true placed = at_onto bytes at b ts placed
at_byte bytes at b ts false false placed = (refl, placed)

at_from : (bytes : List ℕ) (at : ℕ) (bs : List ℕ) → AreAt bytes (tokens_from bytes at bs)
at_from bytes at [] = tt
at_from bytes at (b ∷ bs) = at_byte bytes at b (tokens_from bytes (suc at) bs) (is_white b) (begins_token bs) (at_from bytes (suc at) bs)

one_place : (bytes : List ℕ) (begins : Bool) (t : PlacedToken) (places : List Place) (later : List PlacedToken) → t.place ≡ place_at bytes t.at → places ≡ map (place_at bytes) (offsets later) →
    cond begins (t.place ∷ places) places ≡ map (place_at bytes) (offsets (cond begins (t ∷ later) later))
one_place bytes true t places later here rest = ap (λ (place : Place). place ∷ places) here ∙ ap (λ (all : List Place). place_at bytes t.at ∷ all) rest
one_place bytes false t places later here rest = rest

places-begun : (bytes : List ℕ) (before ts : List PlacedToken) → AreAt bytes ts → places_after before ts ≡ map (place_at bytes) (offsets (begun (standing_by before).part (standing_by before).opened ts))
places-begun bytes before [] placed = refl
places-begun bytes before (t ∷ ts) placed =
    let next : standing_by (before ++ t ∷ []) ≡ standing_after (standing_by before) t = fold_push standing_after at_first before t in
    one_place bytes (begins_after (standing_by before) t) t (places_after (before ++ t ∷ []) ts)
    (begun (standing_after (standing_by before) t).part (standing_after (standing_by before) t).opened ts) placed.0
    (places-begun bytes (before ++ t ∷ []) ts placed.1 ∙ ap (λ (s : Standing). map (place_at bytes) (offsets (begun s.part s.opened ts))) next)

-- the places where the samples of a text begin are those of what is kept
pub places-kept : (bytes : List ℕ) → places_after [] (tokens bytes) ≡ map (place_at bytes) (offsets (begun Defining Ready (tokens bytes)))
places-kept bytes = places-begun bytes [] (tokens bytes) (at_from bytes 0 bytes)
