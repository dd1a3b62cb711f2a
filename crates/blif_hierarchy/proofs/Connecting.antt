-- What a placement connects: the formals that it drives, and the names that it leaves alone.
use Rattle.std.proofs.Common.{◌≡◌, ℕ, zero, suc, ◌+◌, ◌<◌, ◌≤◌, ◌⊎◌, inl, inr, Bool, true, false, eqb, cond, ◌||◌, List, [], ◌∷◌, ◌++◌, map, Option, Some, None, option_and_then, refl, sym, ap, ◌∙◌, subst, ⊎_elim, arith}
use Rattle.std.specs.List.{list_any}
use Rattle.std.proofs.lemmas.Bool.{cases_Bool, cases_lt, cases_eq, eqb-true, eq-eqb, false≢true}
use Rattle.blif_flattening.specs.declared.model.Connection.{Connection}
use Rattle.blif_flattening.specs.declared.model.Placement.{Placement}
use Rattle.blif_flattening.specs.declared.model.Item.TheVariants.{Place}
use Rattle.blif_flattening.specs.declared.model.Model.{Model}
use Rattle.blif_flattening.specs.declared.model.Signal.{Signal}
use Rattle.blif_flattening.specs.Hierarchy.{Path, items_of, placement_at, actual_in, owner}
use Rattle.blif_flattening.specs.Instances.{names_of, own_signal}
use Rattle.blif_flattening.specs.Members.{Among, Apart}
use Rattle.blif_flattening.specs.Numbers.{same_signal}
use Rattle.blif_flattening.proofs.Members.{Among-map, from_map}
use Rattle.blif_flattening.proofs.Unfolding.{owner-some, owner-none}
use Rattle.blif_hierarchy.specs.Drivers.{count_where, times, inputs_in, is_input, actuals_driven, driven_in, drivers_of, IsConnected, IsDriven}
use Rattle.blif_hierarchy.proofs.Counting.{one_if, count_where-append, count_where-map, count_where-alike, times-some, times-none, times-once, times_of}
use Rattle.blif_hierarchy.proofs.Owning.{onto_own, own_signals}

-- the formals that a placement drives, and the names that it leaves alone
formals_driven : (ℕ → Bool) → List Connection → List ℕ
formals_driven is_in [] = []
formals_driven is_in (connection ∷ connections) =
    cond (is_in connection.formal) (formals_driven is_in connections) (connection.formal ∷ formals_driven is_in connections)

unfoldable pub onto_left : Option ℕ → ℕ → List ℕ → List ℕ
onto_left None name names = name ∷ names
onto_left (Some actual) name names = names

unfoldable pub left_alone : List Connection → ℕ → List ℕ
left_alone connections zero = []
left_alone connections (suc name) = onto_left (actual_in connections name) name (left_alone connections name)

-- a name that is connected, and one that is not
pub formal-among : (connections : List Connection) (name actual : ℕ) → actual_in connections name ≡ Some actual
    → Among name (map (λ (c : Connection). c.formal) connections)
formal-among [] name actual is = cc
formal-among (connection ∷ connections) name actual is =
    elim (cases_Bool (eqb connection.formal name)) [
      | inl same ↦ inl (eqb-true connection.formal name same)
      | inr differs ↦ inr (formal-among connections name actual
          (sym (ap (λ b. cond b (Some connection.actual) (actual_in connections name)) differs) ∙ is))
    ]

pub unconnected : (connections : List Connection) (name : ℕ) → actual_in connections name ≡ None → Among name (map (λ (c : Connection). c.formal) connections) → ⊥
unconnected [] name none there = there
unconnected (connection ∷ connections) name none there =
    elim (cases_Bool (eqb connection.formal name)) [
      | inl same ↦
          let bad : Some connection.actual ≡ None =
          sym (ap (λ b. cond b (Some connection.actual) (actual_in connections name)) same) ∙ none in
          cc
      | inr differs ↦
          ⊎_elim (λ here. absurd (false≢true (sym differs ∙ eq-eqb connection.formal name here)))
          (λ later. unconnected connections name (sym (ap (λ b. cond b (Some connection.actual) (actual_in connections name)) differs) ∙ none) later) there
    ]

-- a formal is driven where it is connected and no input
formals-within : (is_in : ℕ → Bool) (connections : List Connection) (name : ℕ) → Among name (formals_driven is_in connections)
    → Among name (map (λ (c : Connection). c.formal) connections) × (is_in name ≡ false)
unfolding formals_driven
formals-within is_in [] name none = absurd none
formals-within is_in (connection ∷ connections) name there =
    by_input (is_in connection.formal) refl there
    (λ among. let rest = formals-within is_in connections name among in (inr rest.0, rest.1))
  where
    by_input : (input : Bool) → is_in connection.formal ≡ input
        → Among name (cond input (formals_driven is_in connections) (connection.formal ∷ formals_driven is_in connections))
        → (Among name (formals_driven is_in connections) → Among name (map (λ (c : Connection). c.formal) (connection ∷ connections)) × (is_in name ≡ false))
        → Among name (map (λ (c : Connection). c.formal) (connection ∷ connections)) × (is_in name ≡ false)
    by_input true is among later = later among
    by_input false is among later = ⊎_elim (λ here. (inl here, subst (λ n. is_in n ≡ false) here is)) (λ rest. later rest) among

formals-there : (is_in : ℕ → Bool) (connections : List Connection) (name : ℕ) → Among name (map (λ (c : Connection). c.formal) connections) → is_in name ≡ false
    → Among name (formals_driven is_in connections)
unfolding formals_driven
formals-there is_in [] name none free = absurd none
formals-there is_in (connection ∷ connections) name there free =
    by_input (is_in connection.formal) refl there (λ among. formals-there is_in connections name among free)
  where
    by_input : (input : Bool) → is_in connection.formal ≡ input → Among name (map (λ (c : Connection). c.formal) (connection ∷ connections))
        → (Among name (map (λ (c : Connection). c.formal) connections) → Among name (formals_driven is_in connections))
        → Among name (cond input (formals_driven is_in connections) (connection.formal ∷ formals_driven is_in connections))
    by_input true is (inl here) rest = absurd (false≢true (sym free ∙ subst (λ n. is_in n ≡ true) here is))
    by_input true is (inr later) rest = rest later
    by_input false is (inl here) rest = inl here
    by_input false is (inr later) rest = inr (rest later)

formals-apart : (is_in : ℕ → Bool) (connections : List Connection) → Apart (map (λ (c : Connection). c.formal) connections) → Apart (formals_driven is_in connections)
unfolding formals_driven
formals-apart is_in [] apart = tt
formals-apart is_in (connection ∷ connections) apart = by_input (is_in connection.formal) (formals-apart is_in connections apart.1)
  where
    by_input : (input : Bool) → Apart (formals_driven is_in connections)
        → Apart (cond input (formals_driven is_in connections) (connection.formal ∷ formals_driven is_in connections))
    by_input true rest = rest
    by_input false rest = (λ there. apart.0 (formals-within is_in connections connection.formal there).0, rest)

-- a name is left alone where it is not connected
pub left-within : (connections : List Connection) (count name : ℕ) → Among name (left_alone connections count) → (name < count) × (actual_in connections name ≡ None)
unfolding left_alone onto_left
left-within connections zero name none = absurd none
left-within connections (suc last) name there =
    by_actual (actual_in connections last) refl there (λ among. let rest = left-within connections last name among in (omega (arith, rest.0), rest.1))
  where
    by_actual : (actual : Option ℕ) → actual_in connections last ≡ actual → Among name (onto_left actual last (left_alone connections last))
        → (Among name (left_alone connections last) → (name < suc last) × (actual_in connections name ≡ None))
        → (name < suc last) × (actual_in connections name ≡ None)
    by_actual None is (inl here) later = (omega (arith, here), subst (λ n. actual_in connections n ≡ None) here is)
    by_actual None is (inr rest) later = later rest
    by_actual (Some actual) is rest later = later rest

pub left-there : (connections : List Connection) (count name : ℕ) → name < count → actual_in connections name ≡ None → Among name (left_alone connections count)
unfolding left_alone onto_left
left-there connections zero name lt none = absurd (omega arith)
left-there connections (suc last) name lt none =
    ⊎_elim
    (λ same. subst (λ n. Among n (onto_left (actual_in connections last) last (left_alone connections last))) (sym same)
    (subst (λ actual. Among last (onto_left actual last (left_alone connections last))) (sym (subst (λ n. actual_in connections n ≡ None) same none)) (inl refl)))
    (λ differs. by_actual (actual_in connections last) (left-there connections last name (grind (arith, differs)) none))
    (cases_eq name last)
  where
    by_actual : (actual : Option ℕ) → Among name (left_alone connections last) → Among name (onto_left actual last (left_alone connections last))
    by_actual None there = inr there
    by_actual (Some actual) there = there

pub left-apart : (connections : List Connection) (count : ℕ) → Apart (left_alone connections count)
unfolding left_alone onto_left
left-apart connections zero = tt
left-apart connections (suc last) = by_actual (actual_in connections last) (left-apart connections last)
  where
    by_actual : (actual : Option ℕ) → Apart (left_alone connections last) → Apart (onto_left actual last (left_alone connections last))
    by_actual None rest = (λ there. let less = (left-within connections last last there).0 in absurd (omega (arith, less)), rest)
    by_actual (Some actual) rest = rest

-- whether a name is an input, and how often it is listed as one
any-among : (name : ℕ) (names : List ℕ) → list_any (λ other. eqb other name) names ≡ true → Among name names
any-among name [] is = cc
any-among name (first ∷ names) is = by_first (eqb first name) refl is (any-among name names)
  where
    by_first : (test : Bool) → eqb first name ≡ test → (test || list_any (λ other. eqb other name) names) ≡ true
        → (list_any (λ other. eqb other name) names ≡ true → Among name names) → Among name (first ∷ names)
    by_first true same some rest = inl (eqb-true first name same)
    by_first false differs some rest = inr (rest some)

among-any : (name : ℕ) (names : List ℕ) → list_any (λ other. eqb other name) names ≡ false → Among name names → ⊥
among-any name [] is there = there
among-any name (first ∷ names) is there = by_first (eqb first name) refl is there (among-any name names)
  where
    by_first : (test : Bool) → eqb first name ≡ test → (test || list_any (λ other. eqb other name) names) ≡ false → Among name (first ∷ names)
        → (list_any (λ other. eqb other name) names ≡ false → Among name names → ⊥) → ⊥
    by_first true same none among rest = false≢true (sym none)
    by_first false differs none (inl here) rest = false≢true (sym differs ∙ eq-eqb first name here)
    by_first false differs none (inr later) rest = rest none later

-- the first connection of a formal is the only one
first-only : (connections : List Connection) (connection : Connection) → Apart (map (λ (c : Connection). c.formal) connections) → Among connection connections
    → actual_in connections connection.formal ≡ Some connection.actual
first-only [] connection apart none = absurd none
first-only (first ∷ connections) connection apart there =
    elim (cases_Bool (eqb first.formal connection.formal)) [
      | inl same ↦
          ap (λ b. cond b (Some first.actual) (actual_in connections connection.formal)) same
          ∙ ⊎_elim (λ here. ap (λ (c : Connection). Some c.actual) here)
          (λ later. absurd (apart.0 (subst (λ n. Among n (map (λ (c : Connection). c.formal) connections)) (sym (eqb-true first.formal connection.formal same))
          (Among-map (λ (c : Connection). c.formal) connection connections later)))) there
      | inr differs ↦
          ap (λ b. cond b (Some first.actual) (actual_in connections connection.formal)) differs
          ∙ ⊎_elim (λ here. absurd (false≢true (sym differs ∙ eq-eqb first.formal connection.formal (ap (λ (c : Connection). c.formal) here))))
          (λ later. first-only connections connection apart.1 later) there
    ]

module _ (Line : Type 0) (inputs drives : Line → List ℕ) (models : List (Model Line)) (is : IsDriven inputs drives models)
    (path : Path) (k : ℕ) (placement : Placement) (placed : placement_at models path k ≡ Some placement)
    (among : (model : ℕ) × Among (Place placement) (items_of models model)) where
  is_in : ℕ → Bool
  is_in name = is_input inputs models placement.model name

  connected : IsConnected inputs models placement
  connected = is.connected among.0 placement among.1

  driven : List ℕ
  driven = driven_in inputs drives models (items_of models placement.model)

  count : ℕ
  count = names_of models placement.model

  all-times : (name : ℕ) → times name (drivers_of inputs drives models placement.model) ≡ times name (inputs_in inputs (items_of models placement.model)) + times name driven
  unfolding driven
  all-times name = count_where-append (λ other. eqb other name) (inputs_in inputs (items_of models placement.model)) driven

  formal-below : (name : ℕ) → Among name (map (λ (c : Connection). c.formal) placement.connections) → name < count
  unfolding count connected
  formal-below name there =
      let by = from_map (λ (c : Connection). c.formal) name placement.connections there in
      subst (λ n. n < names_of models placement.model) by.2 (connected.form.formals by.0 by.1)

  no_formal : (name : ℕ) → (Among name (formals_driven is_in placement.connections) → ⊥) → times name (formals_driven is_in placement.connections) ≡ 0
  no_formal name none = times-none name (formals_driven is_in placement.connections) none

  -- a name that is driven inside is a formal that is driven, or is left alone
  alike-input : (name : ℕ) → name < count → is_in name ≡ true
      → times name driven ≡ times name (formals_driven is_in placement.connections) + times name (left_alone placement.connections count)
  unfolding is_in connected count
  alike-input name lt input =
      let listed = times-some name (inputs_in inputs (items_of models placement.model)) (any-among name (inputs_in inputs (items_of models placement.model)) input) in
      let has = connected.whole name input in
      let formal = no_formal name (λ there. false≢true (sym (formals-within is_in placement.connections name there).1 ∙ input)) in
      let left = times-none name (left_alone placement.connections count) (λ there.
      let bad : None ≡ Some has.0 = sym (left-within placement.connections count name there).1 ∙ has.1 in cc) in
      omega (arith, all-times name, is.once placement.model name lt, listed, formal, left)

  alike-inner : (name : ℕ) → name < count → is_in name ≡ false → (actual : Option ℕ) → actual_in placement.connections name ≡ actual
      → times name driven ≡ times name (formals_driven is_in placement.connections) + times name (left_alone placement.connections count)
  unfolding is_in connected count
  alike-inner name lt free None none =
      let listed = times-none name (inputs_in inputs (items_of models placement.model)) (among-any name (inputs_in inputs (items_of models placement.model)) free) in
      let formal = no_formal name (λ there. unconnected placement.connections name none (formals-within is_in placement.connections name there).0) in
      let left = times-once name (left_alone placement.connections count) (left-apart placement.connections count) (left-there placement.connections count name lt none) in
      omega (arith, all-times name, is.once placement.model name lt, listed, formal, left)
  alike-inner name lt free (Some actual) some =
      let listed = times-none name (inputs_in inputs (items_of models placement.model)) (among-any name (inputs_in inputs (items_of models placement.model)) free) in
      let formal = times-once name (formals_driven is_in placement.connections) (formals-apart is_in placement.connections connected.form.once)
      (formals-there is_in placement.connections name (formal-among placement.connections name actual some) free) in
      let left = times-none name (left_alone placement.connections count) (λ there.
      let bad : None ≡ Some actual = sym (left-within placement.connections count name there).1 ∙ some in cc) in
      omega (arith, all-times name, is.once placement.model name lt, listed, formal, left)

  alike : (name : ℕ) → times name driven ≡ times name (formals_driven is_in placement.connections ++ left_alone placement.connections count)
  unfolding is_in connected count
  alike name =
      by_limit (cases_lt name count) ∙ sym (count_where-append (λ other. eqb other name) (formals_driven is_in placement.connections) (left_alone placement.connections count))
    where
      by_limit : (name < count) ⊎ (count ≤ name) → times name driven ≡ times name (formals_driven is_in placement.connections) + times name (left_alone placement.connections count)
      by_limit (inl lt) =
          ⊎_elim (λ input. alike-input name lt input) (λ free. alike-inner name lt free (actual_in placement.connections name) refl) (cases_Bool (is_in name))
      by_limit (inr past) =
          let formal = no_formal name (λ there. let lt = formal-below name (formals-within is_in placement.connections name there).0 in absurd (omega (arith, lt))) in
          let left = times-none name (left_alone placement.connections count) (λ there. let lt = (left-within placement.connections count name there).0 in absurd (omega (arith, lt))) in
          omega (arith, all-times name, is.past placement.model name past, formal, left)

  -- their signals are those of actuals, or the instance's own
  formal-owner : (connection : Connection) → Among connection placement.connections → owner models (k ∷ path) connection.formal ≡ owner models path connection.actual
  unfolding connected
  formal-owner connection there =
      owner-some Line (λ line. []) models path k connection.formal connection.actual
      (ap (λ (o : Option Placement). option_and_then (λ (p : Placement). actual_in p.connections connection.formal) o) placed
      ∙ first-only placement.connections connection connected.form.once there)

  formals-owned : (signal : Signal) (connections : List Connection) → ((c : Connection) → Among c connections → Among c placement.connections)
      → count_where (λ name. same_signal signal (owner models (k ∷ path) name)) (formals_driven is_in connections)
      ≡ times_of signal (map (owner models path) (actuals_driven is_in connections))
  unfolding formals_driven
  formals-owned signal [] all = refl
  formals-owned signal (connection ∷ connections) all =
      by_input (is_in connection.formal) (formals-owned signal connections (λ c found. all c (inr found)))
    where
      by_input : (input : Bool)
          → count_where (λ name. same_signal signal (owner models (k ∷ path) name)) (formals_driven is_in connections)
          ≡ times_of signal (map (owner models path) (actuals_driven is_in connections))
          → count_where (λ name. same_signal signal (owner models (k ∷ path) name)) (cond input (formals_driven is_in connections) (connection.formal ∷ formals_driven is_in connections))
          ≡ times_of signal (map (owner models path) (cond input (actuals_driven is_in connections) (connection.actual ∷ actuals_driven is_in connections)))
      by_input true rest = rest
      by_input false rest =
          let here : one_if (same_signal signal (owner models (k ∷ path) connection.formal)) ≡ one_if (same_signal signal (owner models path connection.actual)) =
          ap (λ (s : Signal). one_if (same_signal signal s)) (formal-owner connection (all connection (inl refl))) in
          omega (arith, here, rest)

  left-owner : (name : ℕ) → actual_in placement.connections name ≡ None → owner models (k ∷ path) name ≡ own_signal (k ∷ path) name
  left-owner name none =
      owner-none Line (λ line. []) models path k name
      (ap (λ (o : Option Placement). option_and_then (λ (p : Placement). actual_in p.connections name) o) placed ∙ none)

  left-owned : (signal : Signal) (names : ℕ)
      → count_where (λ name. same_signal signal (owner models (k ∷ path) name)) (left_alone placement.connections names)
      ≡ times_of signal (own_signals placement.connections (k ∷ path) names)
  unfolding left_alone onto_left
  left-owned signal zero = refl
  left-owned signal (suc last) = by_actual (actual_in placement.connections last) refl (left-owned signal last)
    where
      by_actual : (actual : Option ℕ) → actual_in placement.connections last ≡ actual
          → count_where (λ name. same_signal signal (owner models (k ∷ path) name)) (left_alone placement.connections last)
          ≡ times_of signal (own_signals placement.connections (k ∷ path) last)
          → count_where (λ name. same_signal signal (owner models (k ∷ path) name)) (onto_left actual last (left_alone placement.connections last))
          ≡ times_of signal (onto_own actual (k ∷ path) last (own_signals placement.connections (k ∷ path) last))
      by_actual None none rest =
          let here : one_if (same_signal signal (owner models (k ∷ path) last)) ≡ one_if (same_signal signal (own_signal (k ∷ path) last)) =
          ap (λ (s : Signal). one_if (same_signal signal s)) (left-owner last none) in
          omega (arith, here, rest)
      by_actual (Some above) some rest = rest

  -- so what is driven inside is what the placement drives, and the instance's own signals
  pub placement-drives : (signal : Signal)
      → times_of signal (map (owner models (k ∷ path)) (driven_in inputs drives models (items_of models placement.model)))
      ≡ times_of signal (map (owner models path) (actuals_driven (is_input inputs models placement.model) placement.connections))
      + times_of signal (own_signals placement.connections (k ∷ path) (names_of models placement.model))
  unfolding is_in driven count
  placement-drives signal =
      let test : ℕ → Bool = λ name. same_signal signal (owner models (k ∷ path) name) in
      count_where-map (same_signal signal) (owner models (k ∷ path)) driven
      ∙ count_where-alike test driven (formals_driven is_in placement.connections ++ left_alone placement.connections count) alike
      ∙ count_where-append test (formals_driven is_in placement.connections) (left_alone placement.connections count)
      ∙ ap (λ n. n + count_where test (left_alone placement.connections count)) (formals-owned signal placement.connections (λ c found. found))
      ∙ ap (λ n. times_of signal (map (owner models path) (actuals_driven is_in placement.connections)) + n) (left-owned signal count)
