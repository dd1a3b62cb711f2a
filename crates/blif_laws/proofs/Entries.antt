-- What stands in a model: its own lines, and what is placed in it.
use Rattle.std.proofs.Common.{◌≡◌, ℕ, ◌+◌, ◌-◌, ◌⊎◌, Bool, List, [], ◌∷◌, ◌++◌, map, take, drop, refl, sym, ap, subst, inl, inr, ⊎_elim, arith}
use Rattle.std.proofs.lemmas.Grind.{flat_map-append}
use Rattle.std.proofs.lemmas.List.{take-append-drop}
use Rattle.std.proofs.lemmas.List.Folds.{flat_map-map}
use Rattle.std.specs.List.{flat_map}
use Rattle.psl_base.specs.Tokens.{PlacedToken}
use Rattle.blif_flattening.specs.Members.{Among}
use Rattle.blif_flattening.proofs.Members.{Among-left, Among-right, Among-map, Among-flat_map, from_append, from_map}
use Rattle.blif_model.specs.Files.{Part, Placing}
use Rattle.blif_model.specs.Models.{Mention, Model, Statement, IsInputs, IsOutputs, IsLatch, IsTable, driven, used}
use Rattle.blif_model.specs.Numbered.{words_in}
use Rattle.blif_linking.specs.Names.{Entry, Says, Places, Parts, entries_from, entries_of, mentions_in, mentions_said, mentions_entered, mentions_placed, names_in}
use Rattle.blif_hierarchy.specs.Drivers.{count_where}
use Rattle.blif_hierarchy.proofs.Counting.{count_where-append}
use Rattle.blif_laws.proofs.Numbers.{names-among}

-- how much of the entries passes a test: what lines say, and what is placed
pub entries-counted : {X : Type 0} (test : X → Bool) (f : Entry → List X) (before : ℕ) (statements : List Statement) (placings : List Placing)
    → count_where test (flat_map f (entries_from before statements placings))
    ≡ count_where test (flat_map (λ (s : Statement). f (Says s)) statements) + count_where test (flat_map (λ (p : Placing). f (Places p)) placings)
entries-counted test f before statements [] = omega (arith, ap (count_where test) (flat_map-map f Says statements))
entries-counted test f before statements (placing ∷ placings) =
    let n : ℕ = placing.before - before in
    let first : List Statement = take n statements in
    let second : List Statement = drop n statements in
    let entries : List Entry = entries_from placing.before second placings in
    let rest = entries-counted test f placing.before second placings in
    let joined = ap (count_where test) (flat_map-append f (map Says first) (Places placing ∷ entries)) in
    let apart = count_where-append test (flat_map f (map Says first)) (f (Places placing) ++ flat_map f entries) in
    let here = count_where-append test (f (Places placing)) (flat_map f entries) in
    let says = ap (count_where test) (flat_map-map f Says first) in
    let whole = ap (λ (list : List Statement). count_where test (flat_map (λ (s : Statement). f (Says s)) list)) (take-append-drop n statements) in
    let split = ap (count_where test) (flat_map-append (λ (s : Statement). f (Says s)) first second) in
    let both = count_where-append test (flat_map (λ (s : Statement). f (Says s)) first) (flat_map (λ (s : Statement). f (Says s)) second) in
    let after = count_where-append test (f (Places placing)) (flat_map (λ (p : Placing). f (Places p)) placings) in
    omega (arith, rest, joined, apart, here, says, whole, split, both, after)

-- an entry is one or the other
pub entry-of : (before : ℕ) (statements : List Statement) (placings : List Placing) (entry : Entry) → Among entry (entries_from before statements placings)
    → ((s : Statement) × Among s statements × (Says s ≡ entry)) ⊎ ((p : Placing) × Among p placings × (Places p ≡ entry))
entry-of before statements [] entry there = inl (from_map Says entry statements there)
entry-of before statements (placing ∷ placings) entry there =
    let n : ℕ = placing.before - before in
    ⊎_elim
    (λ first. let by = from_map Says entry (take n statements) first in
    inl (by.0, subst (λ (list : List Statement). Among by.0 list) (take-append-drop n statements) (Among-left by.0 (take n statements) (drop n statements) by.1), by.2))
    (λ second. ⊎_elim
    (λ here. inr (placing, inl refl, here))
    (λ later. ⊎_elim
    (λ says. inl (says.0, subst (λ (list : List Statement). Among says.0 list) (take-append-drop n statements) (Among-right says.0 (take n statements) (drop n statements) says.1), says.2))
    (λ places. inr (places.0, inr places.1, places.2))
    (entry-of placing.before (drop n statements) placings entry later))
    second)
    (from_append entry (map Says (take n statements)) (Places placing ∷ entries_from placing.before (drop n statements) placings) there)

pub says-among : (before : ℕ) (statements : List Statement) (placings : List Placing) (s : Statement) → Among s statements
    → Among (Says s) (entries_from before statements placings)
says-among before statements [] s there = Among-map Says s statements there
says-among before statements (placing ∷ placings) s there =
    let n : ℕ = placing.before - before in
    let rest : List Entry = Places placing ∷ entries_from placing.before (drop n statements) placings in
    ⊎_elim
    (λ first. Among-left (Says s) (map Says (take n statements)) rest (Among-map Says s (take n statements) first))
    (λ second. Among-right (Says s) (map Says (take n statements)) rest (inr (says-among placing.before (drop n statements) placings s second)))
    (from_append s (take n statements) (drop n statements) (subst (λ (list : List Statement). Among s list) (sym (take-append-drop n statements)) there))

pub places-among : (before : ℕ) (statements : List Statement) (placings : List Placing) (p : Placing) → Among p placings
    → Among (Places p) (entries_from before statements placings)
places-among before statements [] p none = absurd none
places-among before statements (placing ∷ placings) p there =
    let n : ℕ = placing.before - before in
    Among-right (Places p) (map Says (take n statements)) (Places placing ∷ entries_from placing.before (drop n statements) placings)
    (⊎_elim (λ here. inl (ap Places here)) (λ later. inr (places-among placing.before (drop n statements) placings p later)) there)

-- the words of a line are mentioned
said-mentioned : (s : Statement) (word : PlacedToken) → Among word (words_in s) → (mention : Mention) × Among mention (mentions_said s) × (mention.word ≡ word)
said-mentioned (IsInputs words) word there = (driven word, Among-map driven word words there, refl)
said-mentioned (IsOutputs words) word there = (used word, Among-map used word words there, refl)
said-mentioned (IsLatch latch) word (inl here) = (used latch.input, inl refl, here)
said-mentioned (IsLatch latch) word (inr (inl here)) = (driven latch.output, inr (inl refl), here)
said-mentioned (IsLatch latch) word (inr (inr none)) = absurd none
said-mentioned (IsTable gate) word there =
    ⊎_elim
    (λ reads. (used word, Among-left (used word) (map used gate.inputs) (driven gate.output ∷ []) (Among-map used word gate.inputs reads), refl))
    (λ last. ⊎_elim (λ here. (driven gate.output, Among-right (driven gate.output) (map used gate.inputs) (driven gate.output ∷ []) (inl refl), here)) (λ none. absurd none) last)
    (from_append word gate.inputs (gate.output ∷ []) there)

module _ (parts : Parts) (part : Part Model) where
  pub said-named : (s : Statement) (word : PlacedToken) → Among s part.own.statements → Among word (words_in s) → Among word.text (names_in parts part)
  said-named s word there mentioned =
      let by = said-mentioned s word mentioned in
      subst (λ (w : PlacedToken). Among w.text (names_in parts part)) by.2
      (names-among (mentions_in parts part) by.0
      (Among-flat_map (mentions_entered parts) (Says s) by.0 (entries_of part) (says-among 0 part.own.statements part.placings s there) by.1))

  pub placed-named : (placing : Placing) (mention : Mention) → Among placing part.placings → Among mention (mentions_placed parts placing)
      → Among mention.word.text (names_in parts part)
  placed-named placing mention there mentioned =
      names-among (mentions_in parts part) mention
      (Among-flat_map (mentions_entered parts) (Places placing) mention (entries_of part) (places-among 0 part.own.statements part.placings placing there) mentioned)
