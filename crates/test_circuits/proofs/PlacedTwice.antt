-- The worked example: its signals, and that it can be flattened.
use Rattle.std.proofs.Common.{◌≡◌, ℕ, zero, suc, ◌<◌, ◌≤◌, ◌^◌, ◌⊎◌, inl, inr, List, [], ◌∷◌, length, eqb, Some, refl, ap, sym, subst, ⊎_elim, arith}
use Rattle.std.proofs.lemmas.Option.{none-some, cond_some}
use Rattle.blif_flattening.specs.declared.model.Connection.{Connection}
use Rattle.blif_flattening.specs.declared.model.Signal.{Signal}
use Rattle.blif_flattening.specs.declared.model.Placement.{Placement}
use Rattle.blif_flattening.specs.declared.model.Item.{Item}
use Rattle.blif_flattening.specs.declared.model.Item.TheVariants.{Own, Place}
use Rattle.blif_flattening.specs.Members.{Among}
use Rattle.blif_flattening.specs.Hierarchy.{items_of, actual_in, owner, flat_lines}
use Rattle.blif_flattening.specs.Numbers.{signals}
use Rattle.blif_flattening.specs.Instances.{names_of, IsNamed}
use Rattle.test_circuits.specs.PlacedTwice.{worked}

abbrev signal : List ℕ → ℕ → Signal
signal path name = record { path = path; name = name }

module _ (Line : Type 0) (mentions : Line → List ℕ) (first second : Line) (one : mentions first ≡ 1 ∷ 0 ∷ []) (other : mentions second ≡ 0 ∷ 1 ∷ []) where
  -- the signals in order: u1.1, the top's name 0, u2.1, u2.0
  worked-signals : signals mentions (worked first second) ≡ signal (0 ∷ []) 1 ∷ signal [] 0 ∷ signal (1 ∷ []) 1 ∷ signal (1 ∷ []) 0 ∷ []
  unfolding flat_lines
  worked-signals = rw (one, other) refl

  -- u1.0 is the top's name 0, and u2.0 is not
  worked-owner : owner (worked first second) (0 ∷ []) 0 ≡ signal [] 0
  worked-owner = refl

  worked-other : owner (worked first second) (1 ∷ []) 0 ≡ signal (1 ∷ []) 0
  worked-other = refl

  pub worked-room : length (signals mentions (worked first second)) ≤ 2 ^ 32
  worked-room = rw worked-signals (omega arith)

  two : (name : ℕ) (line : Line) → (mentions line ≡ 1 ∷ 0 ∷ []) ⊎ (mentions line ≡ 0 ∷ 1 ∷ []) → Among name (mentions line) → name < 2
  two name line (inl is) there =
      let at : Among name (1 ∷ 0 ∷ []) = subst (λ ns. Among name ns) is there in
      ⊎_elim (λ a. omega arith) (λ rest. ⊎_elim (λ b. omega arith) (λ none. absurd none) rest) at
  two name line (inr is) there =
      let at : Among name (0 ∷ 1 ∷ []) = subst (λ ns. Among name ns) is there in
      ⊎_elim (λ a. omega arith) (λ rest. ⊎_elim (λ b. omega arith) (λ none. absurd none) rest) at

  lines : (model : ℕ) (line : Line) → Among (Own line) (items_of (worked first second) model) → (name : ℕ) → Among name (mentions line) → name < names_of (worked first second) model
  lines zero line there name mention =
      ⊎_elim (λ a. cc) (λ rest. ⊎_elim (λ b. cc) (λ none. absurd none) rest) there
  lines (suc zero) line there name mention =
      ⊎_elim (λ a. let is : first ≡ line = cc in two name line (inl (subst (λ l. mentions l ≡ 1 ∷ 0 ∷ []) is one)) mention)
      (λ rest. ⊎_elim (λ b. let is : second ≡ line = cc in two name line (inr (subst (λ l. mentions l ≡ 0 ∷ 1 ∷ []) is other)) mention) (λ none. absurd none) rest) there
  lines (suc (suc model)) line there name mention = absurd there

  actuals : (model : ℕ) (placement : Placement) → Among (Place placement) (items_of (worked first second) model)
      → (formal actual : ℕ) → actual_in placement.connections formal ≡ Some actual → actual < names_of (worked first second) model
  actuals zero placement there formal actual is =
      ⊎_elim
      (λ a. let at : record { formal = 0; actual = 0 } ∷ [] ≡ placement.connections = ap connections_of a in
      let found : actual_in (record { formal = 0; actual = 0 } ∷ []) formal ≡ Some actual = subst (λ cs. actual_in cs formal ≡ Some actual) (sym at) is in
      only formal actual found)
      (λ rest. ⊎_elim
      (λ b. let at : [] ≡ placement.connections = ap connections_of b in
      let found : actual_in [] formal ≡ Some actual = subst (λ cs. actual_in cs formal ≡ Some actual) (sym at) is in absurd (none-some actual found))
      (λ none. absurd none) rest) there
    where
      connections_of : Item Line → List Connection
      connections_of (Own line) = []
      connections_of (Place placement) = placement.connections

      only : (formal actual : ℕ) → actual_in (record { formal = 0; actual = 0 } ∷ []) formal ≡ Some actual → actual < 1
      only formal actual is = let both = cond_some (eqb 0 formal) 0 actual is in omega (arith, both.1)
  actuals (suc zero) placement there formal actual is =
      ⊎_elim (λ a. cc) (λ rest. ⊎_elim (λ b. cc) (λ none. absurd none) rest) there
  actuals (suc (suc model)) placement there formal actual is = absurd there

  pub IsNamed-worked : IsNamed mentions (worked first second)
  IsNamed-worked = record { lines = lines; actuals = actuals }
