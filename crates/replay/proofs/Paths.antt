-- The trace of a run is a path of its netlist.
use Rattle.std.proofs.Common.{◌≡◌, ◌∙◌, refl, sym, ap, subst, ℕ, zero, suc, ◌+◌, ◌-◌, ◌<◌, ◌≤◌, ◌⊎◌, Bool, true, false, List, [], ◌∷◌, ◌++◌, length, map, get_or, Option, None, Some, Ok, Err, arith, inl, inr}
use Rattle.std.specs.Prelude.{All, IfErr, IfOk, Result, cond, is_none, not}
use Rattle.std.specs.List.{filter, find, range_with_len}
use Rattle.std.proofs.lemmas.Bool.{cases_lt}
use Rattle.std.proofs.lemmas.List.Elements.{All-head, All-tail}
use Rattle.std.proofs.lemmas.List.FromFn.{length-map-range_with_len}
use Rattle.std.proofs.lemmas.Nat.{mod_below}
use Rattle.std.proofs.lemmas.Slice.Eq.{bytes_eq-Decides}
use Rattle.netlist.proofs.Driving.{free-within, latches-within, outputs-within}
use Rattle.netlist.proofs.Walking.{length-walk}
use Rattle.netlist.specs.Design.{Design, free_of}
use Rattle.netlist.specs.Runs.{IsRun, valuation_at}
use Rattle.netlist.specs.Sound.{IsSound}
use Rattle.netlist.specs.Valuations.{IsFilled, IsStep, MayBegin, bit, values}
use Rattle.netlist.specs.declared.latch.Init.{Init}
use Rattle.netlist.specs.declared.latch.Init.TheVariants as inits
use Rattle.netlist.specs.declared.latch.Latch.{Latch}
use Rattle.netlist.specs.declared.run.Run.{Run}
use Rattle.netlist.specs.declared.table.Table.{Table}
use Rattle.psl_layer_theory.specs.LookUp.{ends_named, first_filled, found_among, is_named}
use Rattle.psl_sugar.specs.Vectors.{only_bit}
use Rattle.psl_sugar.specs.declared.vector.Bit.{Bit}
use Rattle.psl_tree.specs.declared.name.Name.{Name}
use Rattle.replay.proofs.First.{first-one, leaves-first}
use Rattle.replay.specs.Answers.{IsMissing, IsReplay, Tells}
use Rattle.replay.specs.Leaving.{differ, differs_from, first_from, first_of, latch_leaves, leaves, leaving, lowest, output_leaves, table_leaves}
use Rattle.replay.specs.Paths.{HasPlainNames}
use Rattle.replay.specs.Recorded.{bit_or_indexed, first_missing, free_at, recorded, value_at, value_of}
use Rattle.replay.specs.declared.answer.Replay.{Replay}
use Rattle.replay.specs.declared.answer.Replay.TheVariants as replays
use Rattle.replay.specs.declared.answer.ReplayFault.{ReplayFault}
use Rattle.replay.specs.declared.answer.ReplayFault.TheVariants as faults
use Rattle.trace.proofs.Letters.{around, around-next, early, trace-bit, turned}
use Rattle.trace.specs.Printed.{printed}
use Rattle.trace.specs.Trace.{count_of, first_text, name_in, trace_names, trace_sampled, valuation_in}
use Rattle.vcd_reader.specs.Sampled.{Sampled}
use Rattle.vcd_reader.specs.declared.unknown.Unknown.TheVariants.{Zero}
use Rattle.vcd_writer.specs.Lines.{letters_of}

is-false : (b : Bool) → (b ≡ true → ⊥) → b ≡ false
is-false true never = absurd (never refl)
is-false false never = refl

-- ---- just one member of a list passes

none-pass : {A : Type 0} (p : A → Bool) (f : ℕ → A) (first count : ℕ) → ((other : ℕ) → first ≤ other → other < first + count → p (f other) ≡ false) → filter p (map f (range_with_len first count)) ≡ []
none-pass p f first zero fail = refl
none-pass p f first (suc count) fail =
    ap (λ (b : Bool). cond b (f first ∷ filter p (map f (range_with_len (first + 1) count))) (filter p (map f (range_with_len (first + 1) count)))) (fail first (omega arith) (omega arith))
    ∙ none-pass p f (first + 1) count (λ other from below. fail other (omega (arith, from)) (omega (arith, below)))

one-passes : {A : Type 0} (p : A → Bool) (f : ℕ → A) (number first count : ℕ) → first ≤ number → number < first + count → p (f number) ≡ true
    → ((other : ℕ) → first ≤ other → other < first + count → p (f other) ≡ true → other ≡ number) → filter p (map f (range_with_len first count)) ≡ f number ∷ []
one-passes p f number first zero from below passes only = absurd (omega (arith, from, below))
one-passes {A} p f number first (suc count) from below passes only =
    by (λ low. one-passes p f number (first + 1) count (omega (arith, low)) (omega (arith, below)) passes (λ other after within t. only other (omega (arith, after)) (omega (arith, within)) t))
    (cases_lt first number)
  where
    by : (first < number → filter p (map f (range_with_len (first + 1) count)) ≡ f number ∷ []) → (first < number) ⊎ (number ≤ first) → filter p (map f (range_with_len first (suc count))) ≡ f number ∷ []
    by later (inl low) =
        ap (λ (b : Bool). cond b (f first ∷ filter p (map f (range_with_len (first + 1) count))) (filter p (map f (range_with_len (first + 1) count)))) (is-false (p (f first)) (λ t. let same : first ≡ number = only first (omega arith) (omega arith) t in omega (arith, same, low)))
        ∙ later low
    by later (inr high) =
        let here : number ≡ first = omega (arith, from, high) in
        ap (λ (b : Bool). cond b (f first ∷ filter p (map f (range_with_len (first + 1) count))) (filter p (map f (range_with_len (first + 1) count)))) (ap (λ (n : ℕ). p (f n)) (sym here) ∙ passes)
        ∙ ap (λ (tail : List A). f first ∷ tail) (none-pass p f (first + 1) count (λ other after within. is-false (p (f other))
        (λ t. let same : other ≡ number = only other (omega (arith, after)) (omega (arith, within)) t in omega (arith, same, here, after))))
        ∙ ap (λ (n : ℕ). f n ∷ []) (sym here)

-- ---- recordings that have each signal

-- each signal is a bit of the recording, which has the values of the run
pub record Follows (design : Design) (run : Run) (loops : ℕ) (recording : Sampled) : Type 0 where
  pub count : length recording.samples ≡ count_of run loops
  pub each : (signal : ℕ) → signal < design.signals → (found : Bit) × (recorded design recording signal ≡ Some found)
      × ((sample : ℕ) → sample < count_of run loops → value_of recording sample (Some found) ≡ bit (valuation_in run sample) signal)

-- a trace does where names are plain

module _ (design : Design) (run : Run) (loops : ℕ) (plain : HasPlainNames design) where
  named-self : (signal : ℕ) → signal < design.signals → is_named (first_text design.names signal) (name_in design.names signal) ≡ true
  named-self signal within = (bytes_eq-Decides (printed (first_text design.names signal)) (first_text design.names signal)).1 (plain.same signal within)

  named-only : (signal : ℕ) → signal < design.signals → (other : ℕ) → other < design.signals → is_named (first_text design.names signal) (name_in design.names other) ≡ true → other ≡ signal
  named-only signal within other below named =
      plain.apart other signal below within (sym (plain.same other below) ∙ (bytes_eq-Decides (printed (first_text design.names other)) (first_text design.names signal)).0 named)

  recorded-is : (signal : ℕ) → signal < design.signals → recorded design (trace_sampled Zero design run loops) signal ≡ Some (only_bit signal)
  recorded-is signal within =
      let text = first_text design.names signal in
      ap (λ (names : List Name). bit_or_indexed (trace_names design) text (found_among (first_filled names (filter (ends_named text) (trace_names design)))))
      (one-passes (is_named text) (name_in design.names) signal 0 design.signals (omega arith) (omega (arith, within)) (named-self signal within)
      (λ other after below named. named-only signal within other (omega (arith, below)) named))

pub trace-follows : (design : Design) (run : Run) (loops : ℕ) → HasPlainNames design → Follows design run loops (trace_sampled Zero design run loops)
trace-follows design run loops plain = record {
  count = length-map-range_with_len (λ (n : ℕ). letters_of (valuation_in run n)) 0 (count_of run loops);
  each = λ signal within. (only_bit signal, recorded-is design run loops plain signal within, λ sample here. trace-bit design run loops sample signal here);
}

-- ---- what such a recording says

module _ (design : Design) (run : Run) (loops : ℕ) (recording : Sampled) (follows : Follows design run loops recording) where
  none-missing : (signals : List ℕ) → All (λ signal. signal < design.signals) signals → find (λ signal. is_none (recorded design recording signal)) signals ≡ None
  none-missing [] within = refl
  none-missing (signal ∷ signals) within =
      ap (λ (o : Option Bit). cond (is_none o) (Some signal) (find (λ (s : ℕ). is_none (recorded design recording s)) signals)) ((follows.each signal (All-head (λ (s : ℕ). s < design.signals) signal signals within)).1)
      ∙ none-missing signals (All-tail (λ (s : ℕ). s < design.signals) signal signals within)

  value-is : (sample signal : ℕ) → sample < count_of run loops → signal < design.signals → value_at design recording sample signal ≡ bit (valuation_in run sample) signal
  value-is sample signal here within = (let found = follows.each signal within in ap (value_of recording sample) found.1 ∙ found.2 sample here)

  values-are : (sample : ℕ) → sample < count_of run loops → (signals : List ℕ) → All (λ signal. signal < design.signals) signals
      → values (valuation_in run sample) signals ≡ map (value_at design recording sample) signals
  values-are sample here [] within = refl
  values-are sample here (signal ∷ signals) within =
      ap (λ (b : Bool). b ∷ values (valuation_in run sample) signals) (sym (value-is sample signal here (All-head (λ (s : ℕ). s < design.signals) signal signals within)))
      ∙ ap (λ (bs : List Bool). value_at design recording sample signal ∷ bs) (values-are sample here signals (All-tail (λ (s : ℕ). s < design.signals) signal signals within))

-- ---- the valuations of a run for ever

step-in : (design : Design) (run : Run) → IsRun design run → (place : ℕ) → IsStep design (valuation_in run place) (valuation_in run (suc place))
step-in design run is place = by (cases_lt place (length run.stem))
  where
    by : (place < length run.stem) ⊎ (length run.stem ≤ place) → IsStep design (valuation_in run place) (valuation_in run (suc place))
    by (inl low) =
        let long = length-walk run is.loops in
        subst (λ (v : List Bool). IsStep design v (valuation_in run (suc place))) (sym (early run place (omega (arith, low, is.loops))))
        (subst (λ (v : List Bool). IsStep design (valuation_at run place) v) (sym (early run (suc place) (omega (arith, low, is.loops))))
        (is.steps place (omega (arith, low, long, is.loops))))
    by (inr high) =
        let long = length-walk run is.loops in
        let gap = place - length run.stem in
        let here : length run.stem + gap ≡ place = omega (arith, high) in
        let next : length run.stem + (gap + 1) ≡ suc place = omega (arith, high) in
        let turn = mod_below gap (length run.loop_part) is.loops in
        let later : suc (length run.stem + turned run gap) ≡ length run.stem + (turned run gap + 1) = omega arith in
        subst (λ (v : List Bool). IsStep design v (valuation_in run (suc place))) (sym (around run gap is.loops) ∙ ap (valuation_in run) here)
        (subst (λ (v : List Bool). IsStep design (valuation_at run (length run.stem + turned run gap)) v) (ap (valuation_at run) later ∙ sym (around-next run gap is.loops) ∙ ap (valuation_in run) next)
        (is.steps (length run.stem + turned run gap) (omega (arith, turn, long))))

filled : (design : Design) (run : Run) (loops : ℕ) (recording : Sampled) → Follows design run loops recording → IsSound design → IsRun design run → (sample : ℕ) → sample < count_of run loops
    → IsFilled design (free_at design recording sample) (valuation_in run sample)
filled design run loops recording follows sound is sample here = record {
  is = (step-in design run is sample).before;
  has = values-are design run loops recording follows sample here (free_of design) (free-within design sound);
}

-- ---- no signal leaves

none-kept : {A : Type 0} (p : A → Bool) (members : List A) → All (λ member. p member ≡ false) members → filter p members ≡ []
none-kept p [] fail = refl
none-kept {A} p (member ∷ members) fail =
    ap (λ (b : Bool). cond b (member ∷ filter p members) (filter p members)) (All-head (λ (m : A). p m ≡ false) member members fail)
    ∙ none-kept p members (All-tail (λ (m : A). p m ≡ false) member members fail)

begins : (init : Init) (value : Bool) → MayBegin init value → differs_from init value ≡ false
begins inits.Zero value may = may
begins inits.One value may = ap not may
begins inits.Free value may = refl

same-differs : (value : Bool) → differ value value ≡ false
same-differs true = refl
same-differs false = refl

alike : (one two : Bool) → one ≡ two → differ one two ≡ false
alike one two same = ap (λ (b : Bool). differ b two) same ∙ same-differs two

none-leaves : (at : ℕ → List ℕ) (first count : ℕ) → ((sample : ℕ) → sample < count → at (first + sample) ≡ []) → first_from at first count ≡ None
none-leaves at first zero stays = refl
none-leaves at first (suc count) stays =
    ap (λ (signals : List ℕ). first_of first (lowest None signals) (first_from at (first + 1) count)) (ap at (let e : first ≡ first + 0 = omega arith in e) ∙ stays 0 (omega arith))
    ∙ none-leaves at (first + 1) count (λ sample within. ap at (let e : first + 1 + sample ≡ first + suc sample = omega arith in e) ∙ stays (suc sample) (omega (arith, within)))

module _ (design : Design) (run : Run) (loops : ℕ) (recording : Sampled) (follows : Follows design run loops recording) (sound : IsSound design) (is : IsRun design run)
    (valuations : ℕ → List Bool) (are : (sample : ℕ) → sample < count_of run loops → valuations sample ≡ valuation_in run sample) where
  latch-stays : (sample : ℕ) → sample < count_of run loops → (place : ℕ) (other : Latch) → place < length design.latches
      → latch_leaves design recording valuations sample (get_or design.latches place other) ≡ false
  latch-stays zero here place other within =
      let latch = get_or design.latches place other in
      let low = latches-within design sound place other within in
      let first : bit (valuation_in run 0) latch.output ≡ bit (valuation_at run 0) latch.output = ap (λ (v : List Bool). bit v latch.output) (early run 0 (omega (arith, is.loops))) in
      ap (differs_from latch.init) (value-is design run loops recording follows 0 latch.output here low ∙ first)
      ∙ begins latch.init (bit (valuation_at run 0) latch.output) (is.begins.latches place other within)
  latch-stays (suc sample) here place other within =
      let latch = get_or design.latches place other in
      let low = latches-within design sound place other within in
      alike (value_at design recording (suc sample) latch.output) (bit (valuations sample) latch.input)
      (value-is design run loops recording follows (suc sample) latch.output here low
      ∙ (step-in design run is sample).latches place other within
      ∙ ap (λ (v : List Bool). bit v latch.input) (sym (are sample (omega (arith, here)))))

  table-stays : (sample : ℕ) → sample < count_of run loops → (place : ℕ) (other : Table) → place < length design.tables
      → table_leaves design recording valuations sample (get_or design.tables place other) ≡ false
  table-stays sample here place other within =
      let table = get_or design.tables place other in
      let low = outputs-within design sound place other within in
      let found = follows.each table.output low in
      ap (output_leaves recording (valuations sample) sample table.output) found.1
      ∙ alike (value_of recording sample (Some found.0)) (bit (valuations sample) table.output)
      (found.2 sample here ∙ ap (λ (v : List Bool). bit v table.output) (sym (are sample here)))

  stay : (sample : ℕ) → sample < count_of run loops → leaving design recording valuations sample ≡ []
  stay sample here =
      ap (λ (ls : List Latch). map (λ (l : Latch). l.output) ls ++ map (λ (t : Table). t.output) (filter (table_leaves design recording valuations sample) design.tables))
      (none-kept (latch_leaves design recording valuations sample) design.latches (λ place other within. latch-stays sample here place other within))
      ∙ ap (λ (ts : List Table). map (λ (t : Table). t.output) ts)
      (none-kept (table_leaves design recording valuations sample) design.tables (λ place other within. table-stays sample here place other within))

  pub no-leave : leaves design recording valuations ≡ None
  no-leave =
      ap (first_from (leaving design recording valuations) 0) follows.count
      ∙ none-leaves (leaving design recording valuations) 0 (count_of run loops)
      (λ sample within. ap (leaving design recording valuations) (let e : 0 + sample ≡ sample = omega arith in e) ∙ stay sample within)

-- ---- what is answered of it

abbrev OneValuation : Design → Type 0
OneValuation design = (free left right : List Bool) → IsFilled design free left → IsFilled design free right → left ≡ right

pub is-path : (design : Design) → IsSound design → OneValuation design → (run : Run) (loops : ℕ) (recording : Sampled) → IsRun design run → Follows design run loops recording
    → (answer : Replay) → IsReplay design recording answer → answer ≡ replays.Path
is-path design sound one run loops recording is follows answer replay =
    let count = follows.count in
    subst (λ (found : Option (ℕ × ℕ)). Tells design found answer)
    (first-one design recording replay.valuations replay.found (leaves design recording replay.valuations) replay.first (leaves-first design recording replay.valuations)
    ∙ no-leave design run loops recording follows sound is replay.valuations (λ sample within.
    one (free_at design recording sample) (replay.valuations sample) (valuation_in run sample) (replay.computed sample (omega (arith, count, within))) (filled design run loops recording follows sound is sample within)))
    replay.tells

pub not-missing : (design : Design) → IsSound design → (run : Run) (loops : ℕ) (recording : Sampled) → Follows design run loops recording → (fault : ReplayFault) → IsMissing design recording fault → fault ≡ faults.NoMemory
not-missing design sound run loops recording follows (faults.MissingSignal name) (signal, missing, is) =
    let none : first_missing design recording ≡ None = none-missing design run loops recording follows (free_of design) (free-within design sound) in
    let wrong : None ≡ Some signal = sym none ∙ missing in cc
not-missing design sound run loops recording follows faults.NoMemory missing = refl

pub path-answered : (design : Design) → IsSound design → OneValuation design → (run : Run) (loops : ℕ) (recording : Sampled) (result : Result Replay ReplayFault) → IsRun design run → Follows design run loops recording
    → IfOk result (IsReplay design recording) → IfErr result (IsMissing design recording)
    → (result ≡ Ok replays.Path) ⊎ (result ≡ Err faults.NoMemory)
path-answered design sound one run loops recording (Ok answer) is follows replay missing = inl (ap Ok (is-path design sound one run loops recording is follows answer replay))
path-answered design sound one run loops recording (Err fault) is follows replay missing = inr (ap Err (not-missing design sound run loops recording follows fault missing))
