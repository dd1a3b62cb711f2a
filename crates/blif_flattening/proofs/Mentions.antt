-- A list of names is mentioned one by one.
use Rattle.std.proofs.Common.{◌≡◌, ℕ, ◌+◌, ◌<◌, ◌≤◌, List, [], ◌∷◌, ◌++◌, length, map, take, drop, get_or, sym, ap, ◌∙◌, subst, arith}
use Rattle.std.proofs.lemmas.List.{take_more, map_push, map-append, take-append-drop}
use Rattle.blif_flattening.specs.declared.model.Signal.{Signal}
use Rattle.blif_flattening.specs.Members.{Among}
use Rattle.blif_flattening.specs.Numbers.{onto, place_of}
use Rattle.blif_flattening.specs.Cells.{signal_in, named}
use Rattle.blif_flattening.proofs.Numbering.{onto-append, onto-adds, onto-longer, numbers-stay}

module _ (owners : List Signal) (cells names : List ℕ) (first now : List Signal) (i : ℕ) (lt : i < length names)
    (seen : now ≡ onto first (named owners cells (take i names))) where
  signal : Signal
  signal = signal_in owners (get_or cells (get_or names i 0) 0)

  named-next : named owners cells (take (i + 1) names) ≡ named owners cells (take i names) ++ signal ∷ []
  unfolding signal
  named-next =
      ap (named owners cells) (take_more names i 0 lt)
      ∙ map_push (λ name. signal_in owners (get_or cells name 0)) (take i names) (get_or names i 0)

  pub seen-next : onto now (signal_in owners (get_or cells (get_or names i 0) 0) ∷ []) ≡ onto first (named owners cells (take (i + 1) names))
  unfolding signal
  seen-next =
      ap (λ xs. onto xs (signal ∷ [])) seen
      ∙ sym (onto-append first (named owners cells (take i names)) (signal ∷ []))
      ∙ ap (onto first) (sym named-next)

  seen_before : (x : Signal) → Among x (named owners cells (take i names)) → Among x now
  seen_before x there = subst (λ xs. Among x xs) (sym seen) (onto-adds first (named owners cells (take i names)) x there)

  pub numbers-next : (numbers : List ℕ) → numbers ≡ map (place_of now) (named owners cells (take i names))
      → numbers ++ place_of (onto now (signal_in owners (get_or cells (get_or names i 0) 0) ∷ [])) (signal_in owners (get_or cells (get_or names i 0) 0)) ∷ []
      ≡ map (place_of (onto now (signal_in owners (get_or cells (get_or names i 0) 0) ∷ []))) (named owners cells (take (i + 1) names))
  unfolding signal
  numbers-next numbers is =
      let last : ℕ = place_of (onto now (signal ∷ [])) signal in
      ap (λ ns. ns ++ last ∷ []) (is ∙ sym (numbers-stay now (signal ∷ []) (named owners cells (take i names)) seen_before))
      ∙ sym (map_push (place_of (onto now (signal ∷ []))) (named owners cells (take i names)) signal)
      ∙ ap (map (place_of (onto now (signal ∷ [])))) (sym named-next)

  pub numbers-pushed : (numbers next : List ℕ) (number : ℕ) (after : List Signal) → numbers ≡ map (place_of now) (named owners cells (take i names))
      → after ≡ onto now (signal_in owners (get_or cells (get_or names i 0) 0) ∷ [])
      → number ≡ place_of after (signal_in owners (get_or cells (get_or names i 0) 0)) → next ≡ numbers ++ number ∷ []
      → next ≡ map (place_of after) (named owners cells (take (i + 1) names))
  numbers-pushed numbers next number after is grown numbered pushed =
      pushed ∙ ap (λ n. numbers ++ n ∷ []) numbered
      ∙ subst (λ xs. numbers ++ place_of xs (signal_in owners (get_or cells (get_or names i 0) 0)) ∷ [] ≡ map (place_of xs) (named owners cells (take (i + 1) names)))
      (sym grown) (numbers-next numbers is)

  pub room-next : (room : ℕ) → length (onto first (named owners cells names)) ≤ room
      → length (onto now (signal_in owners (get_or cells (get_or names i 0) 0) ∷ [])) ≤ room
  room-next room fits =
      let parts : named owners cells names ≡ named owners cells (take (i + 1) names) ++ named owners cells (drop (i + 1) names) =
      ap (named owners cells) (sym (take-append-drop (i + 1) names))
      ∙ map-append (λ name. signal_in owners (get_or cells name 0)) (take (i + 1) names) (drop (i + 1) names) in
      let whole : onto first (named owners cells names) ≡ onto (onto first (named owners cells (take (i + 1) names))) (named owners cells (drop (i + 1) names)) =
      ap (onto first) parts ∙ onto-append first (named owners cells (take (i + 1) names)) (named owners cells (drop (i + 1) names)) in
      omega (arith, ap length whole, ap length seen-next, onto-longer (onto first (named owners cells (take (i + 1) names))) (named owners cells (drop (i + 1) names)))
