-- Directives one behind another: their numbers, and the first that is too large.
use Rattle.std.proofs.Common.{◌≡◌, ℕ, suc, ◌+◌, List, [], ◌∷◌, ◌++◌, map, length, Bool, true, false, if◌then◌else◌, Option, None, Some, Result, Ok, Err, refl, sym, ap, subst, ◌∙◌, append_assoc, add-zero, arith, length-append}
use Rattle.std.proofs.lemmas.List.{append-nil, map-append}
use Rattle.std.specs.List.{find}
use Rattle.std.specs.Option.{option_map}
use Rattle.psl_base.specs.declared.place.Place.{Place}
use Rattle.psl_tree.specs.Trees.{Boolean}
use Rattle.psl_tree.specs.declared.directive.Directive.{Directive}
use Rattle.psl_sugar.specs.declared.fault.SugarFault.{SugarFault}
use Rattle.psl_layer_theory.specs.Answers.{Numbered, directive_of, numbered, is_too_large, first_too_large}
use Rattle.psl_layer_theory.specs.Directives.{Asked}
use Rattle.psl_layer_theory.specs.declared.fault.LayerFault.{LayerFault}
use Rattle.psl_layer_theory.specs.declared.fault.LayerFault.TheVariants as faults
use Rattle.psl_layer.specs.Asked.{Asks, AskAll, IsLonger}
use Rattle.psl_layer.specs.Built.{GivesClock}
use Rattle.psl_layer.specs.declared.asked.Asked as code_asked

by_test : (test : Bool) (one : Asked) (more second : List Asked) → (first_too_large more ≡ None → first_too_large (more ++ second) ≡ first_too_large second)
    → option_map (λ (asked : Asked). asked.place) (if test then Some one else find is_too_large more) ≡ None
    → option_map (λ (asked : Asked). asked.place) (if test then Some one else find is_too_large (more ++ second)) ≡ first_too_large second
by_test true one more second rest none = cc
by_test false one more second rest none = rest none

large_by_test : (test : Bool) (one : Asked) (more second : List Asked) (place : Place) → (first_too_large more ≡ Some place → first_too_large (more ++ second) ≡ Some place)
    → option_map (λ (asked : Asked). asked.place) (if test then Some one else find is_too_large more) ≡ Some place
    → option_map (λ (asked : Asked). asked.place) (if test then Some one else find is_too_large (more ++ second)) ≡ Some place
large_by_test true one more second place rest is = is
large_by_test false one more second place rest is = rest is

-- behind some that fit
fits_append : (first second : List Asked) → first_too_large first ≡ None → first_too_large (first ++ second) ≡ first_too_large second
fits_append [] second fits = refl
fits_append (one ∷ more) second fits = by_test (is_too_large one) one more second (fits_append more second) fits

-- before others
large_append : (first second : List Asked) (place : Place) → first_too_large first ≡ Some place → first_too_large (first ++ second) ≡ Some place
large_append [] second place large = cc
large_append (one ∷ more) second place large = large_by_test (is_too_large one) one more second place (large_append more second place) large

numbered-append : (next : ℕ) (first second : List Asked) → numbered next (first ++ second) ≡ numbered next first ++ numbered (next + length first) second
numbered-append next [] second = rw add-zero refl
numbered-append next (one ∷ more) second =
    let rest : numbered (suc next) (more ++ second) ≡ numbered (suc next) more ++ numbered (suc next + length more) second = numbered-append (suc next) more second in
    let number : suc next + length more ≡ next + suc (length more) = omega arith in
    let head : Numbered = record { number = next; kind = one.kind; label = one.label; place = one.place; formula = one.formula } in
    ap (λ (tail : List Numbered). head ∷ tail) (rest ∙ ap (λ (from : ℕ). numbered (suc next) more ++ numbered from second) number)

length-numbered : (next : ℕ) (all : List Asked) → length (numbered next all) ≡ length all
length-numbered next [] = refl
length-numbered next (one ∷ more) = ap suc (length-numbered (suc next) more)

length-directives : (all : List Directive) → length (map directive_of all) ≡ length all
length-directives [] = refl
length-directives (one ∷ more) = ap suc (length-directives more)

-- how many there are
longer_length : (old new : List Directive) (asked : List Asked) → IsLonger old asked (Ok new) → length new ≡ length old + length asked
longer_length old new asked longer =
    sym (length-directives new) ∙ ap length longer.1
    ∙ length-append (map directive_of old) (numbered (suc (length old)) asked)
    ∙ ap (λ (count : ℕ). count + length (numbered (suc (length old)) asked)) (length-directives old)
    ∙ ap (λ (count : ℕ). length old + count) (length-numbered (suc (length old)) asked)

-- none more
pub longer_none : (old : List Directive) → IsLonger old [] (Ok old)
longer_none old = (refl, sym (append-nil (map directive_of old)))

-- one that fits
pub longer_one : (old : List Directive) (asked : Asked) (new : Directive) → is_too_large asked ≡ false →
    directive_of new ≡ record { number = suc (length old); kind = asked.kind; label = asked.label; place = asked.place; formula = asked.formula } → IsLonger old (asked ∷ []) (Ok (old ++ new ∷ []))
longer_one old asked new fits is = (
  ap (λ (test : Bool). option_map (λ (one : Asked). one.place) (if test then Some asked else None)) fits,
  map-append directive_of old (new ∷ []) ∙ ap (λ (one : Numbered). map directive_of old ++ one ∷ []) is,
)

-- one that is too large
pub longer_large : (old : List Directive) (asked : Asked) → is_too_large asked ≡ true → IsLonger old (asked ∷ []) (Err (faults.TooLarge asked.place))
longer_large old asked large = ap (λ (test : Bool). option_map (λ (one : Asked). one.place) (if test then Some asked else None)) large

-- some, and others behind them
pub longer_more : (old mid : List Directive) (first second : List Asked) (result : Result (List Directive) LayerFault) →
    IsLonger old first (Ok mid) → IsLonger mid second result → IsLonger old (first ++ second) result
longer_more old mid first second (Ok new) begun goes_on =
    let number : suc (length mid) ≡ suc (length old) + length first = let e = longer_length old mid first begun in omega (arith, e) in (
      fits_append first second begun.0 ∙ goes_on.0,
      goes_on.1
          ∙ ap (λ (from : ℕ). map directive_of mid ++ numbered from second) number
          ∙ ap (λ (all : List Numbered). all ++ numbered (suc (length old) + length first) second) begun.1
          ∙ append_assoc (map directive_of old) (numbered (suc (length old)) first) (numbered (suc (length old) + length first) second)
          ∙ ap (λ (all : List Numbered). map directive_of old ++ all) (sym (numbered-append (suc (length old)) first second)),
    )
longer_more old mid first second (Err (faults.TooLarge place)) begun goes_on = fits_append first second begun.0 ∙ goes_on
longer_more old mid first second (Err faults.NoMemory) begun goes_on = tt
longer_more old mid first second (Err (faults.Kind place)) begun goes_on = goes_on
longer_more old mid first second (Err (faults.UnknownName place)) begun goes_on = goes_on
longer_more old mid first second (Err (faults.Ambiguous place)) begun goes_on = goes_on
longer_more old mid first second (Err (faults.DeclaredTwice place)) begun goes_on = goes_on
longer_more old mid first second (Err (faults.EmptyRange place)) begun goes_on = goes_on
longer_more old mid first second (Err (faults.ConstantTooWide place)) begun goes_on = goes_on

-- a fault of the first is one of all
pub longer_err : (old : List Directive) (first second : List Asked) (fault : LayerFault) → IsLonger old first (Err fault) → IsLonger old (first ++ second) (Err fault)
longer_err old first second (faults.TooLarge place) is = large_append first second place is
longer_err old first second faults.NoMemory is = tt
longer_err old first second (faults.Kind place) is = is
longer_err old first second (faults.UnknownName place) is = is
longer_err old first second (faults.Ambiguous place) is = is
longer_err old first second (faults.DeclaredTwice place) is = is
longer_err old first second (faults.EmptyRange place) is = is
longer_err old first second (faults.ConstantTooWide place) is = is

-- some that were read ask this, and others are left
pub record AskedRest (wanted : Option Boolean) (old unit : List Directive) (rest : List code_asked.Asked) (all : List Asked) : Type 0 where
  pub done : List Asked
  pub left : List Asked
  pub whole : all ≡ done ++ left
  pub waiting : AskAll wanted rest left
  pub made : IsLonger old done (Ok unit)

-- the directives so far, whatever is asked
abbrev pub IsSettling : Option (Result Boolean SugarFault) → List Directive → List Directive → List code_asked.Asked → List code_asked.Asked → Type 0
IsSettling clock old unit every rest =
    (wanted : Option Boolean) (all : List Asked) → GivesClock clock wanted → AskAll wanted every all → AskedRest wanted old unit rest all

pub settling_begun : (clock : Option (Result Boolean SugarFault)) (old : List Directive) (every : List code_asked.Asked) → IsSettling clock old old every every
settling_begun clock old every wanted all gives asked = record { done = []; left = all; whole = refl; waiting = asked; made = longer_none old }

-- what the next one asks, and the others
record NextAsked (wanted : Option Boolean) (one : code_asked.Asked) (more : List code_asked.Asked) (left : List Asked) : Type 0 where
  asked : Asked
  others : List Asked
  whole : left ≡ asked ∷ others
  asks : Asks wanted one asked
  rest : AskAll wanted more others

next_asked : (wanted : Option Boolean) (one : code_asked.Asked) (more : List code_asked.Asked) (left : List Asked) → AskAll wanted (one ∷ more) left →
    NextAsked wanted one more left
next_asked wanted one more [] waiting = absurd waiting
next_asked wanted one more (asked ∷ others) waiting = record { asked = asked; others = others; whole = refl; asks = waiting.0; rest = waiting.1 }

-- one more
pub settling_more : (clock : Option (Result Boolean SugarFault)) (old unit new : List Directive) (every : List code_asked.Asked) (one : code_asked.Asked) (more : List code_asked.Asked) →
    ((wanted : Option Boolean) (asked : Asked) → GivesClock clock wanted → Asks wanted one asked → IsLonger unit (asked ∷ []) (Ok new)) →
    IsSettling clock old unit every (one ∷ more) → IsSettling clock old new every more
settling_more clock old unit new every one more longer before wanted all gives asked =
    let so_far = before wanted all gives asked in
    let next = next_asked wanted one more so_far.left so_far.waiting in
    record {
      done = so_far.done ++ next.asked ∷ [];
      left = next.others;
      whole = so_far.whole ∙ ap (λ (left : List Asked). so_far.done ++ left) next.whole ∙ sym (append_assoc so_far.done (next.asked ∷ []) next.others);
      waiting = next.rest;
      made = longer_more old unit so_far.done (next.asked ∷ []) (Ok new) so_far.made (longer wanted next.asked gives next.asks);
    }

-- a fault at one is one of all
pub settling_err : (clock : Option (Result Boolean SugarFault)) (old unit : List Directive) (every : List code_asked.Asked) (one : code_asked.Asked) (more : List code_asked.Asked) (fault : LayerFault) →
    ((wanted : Option Boolean) (asked : Asked) → GivesClock clock wanted → Asks wanted one asked → IsLonger unit (asked ∷ []) (Err fault)) →
    IsSettling clock old unit every (one ∷ more) →
    (wanted : Option Boolean) (all : List Asked) → GivesClock clock wanted → AskAll wanted every all → IsLonger old all (Err fault)
settling_err clock old unit every one more fault longer before wanted all gives asked =
    let so_far = before wanted all gives asked in
    let next = next_asked wanted one more so_far.left so_far.waiting in
    let P : List Asked → Type 0 = λ all. IsLonger old all (Err fault) in
    let whole : all ≡ (so_far.done ++ next.asked ∷ []) ++ next.others =
    so_far.whole ∙ ap (λ (left : List Asked). so_far.done ++ left) next.whole ∙ sym (append_assoc so_far.done (next.asked ∷ []) next.others) in
    subst P (sym whole)
    (longer_err old (so_far.done ++ next.asked ∷ []) next.others fault
    (longer_more old unit so_far.done (next.asked ∷ []) (Err fault) so_far.made (longer wanted next.asked gives next.asks)))

none_asked : (wanted : Option Boolean) (left : List Asked) → AskAll wanted [] left → left ≡ []
none_asked wanted [] waiting = refl
none_asked wanted (asked ∷ others) waiting = absurd waiting

-- none is left
pub settling_end : (clock : Option (Result Boolean SugarFault)) (old unit : List Directive) (every rest : List code_asked.Asked) → rest ≡ [] →
    IsSettling clock old unit every rest → (wanted : Option Boolean) (all : List Asked) → GivesClock clock wanted → AskAll wanted every all → IsLonger old all (Ok unit)
settling_end clock old unit every rest end before wanted all gives asked =
    let so_far = before wanted all gives asked in
    let P : List Asked → Type 0 = λ all. IsLonger old all (Ok unit) in
    let Q : List code_asked.Asked → Type 0 = λ rest. AskAll wanted rest so_far.left in
    let none : so_far.left ≡ [] = none_asked wanted so_far.left (subst Q end so_far.waiting) in
    let whole : all ≡ so_far.done = so_far.whole ∙ ap (λ (left : List Asked). so_far.done ++ left) none ∙ append-nil so_far.done in
    subst P (sym whole) so_far.made

-- one more that was read
pub ask_more : (wanted : Option Boolean) (read : List code_asked.Asked) (one : code_asked.Asked) (all : List Asked) (asked : Asked) → AskAll wanted read all → Asks wanted one asked →
    AskAll wanted (read ++ one ∷ []) (all ++ asked ∷ [])
ask_more wanted [] one [] asked asks more = (more, tt)
ask_more wanted [] one (other ∷ others) asked asks more = absurd asks
ask_more wanted (first ∷ rest) one [] asked asks more = absurd asks
ask_more wanted (first ∷ rest) one (other ∷ others) asked asks more = (asks.0, ask_more wanted rest one others asked asks.1 more)

-- a list behind what was built
pub list_more : (done all : List Asked) (unit : List Directive) (result : Result (List Directive) LayerFault) → IsLonger unit all result → IsLonger [] done (Ok unit) → IsLonger [] (done ++ all) result
list_more done all unit result longer made = longer_more [] unit done all result made longer
