-- The queries are the formulas of a window over the circuit of the joint states.
use Rattle.std.proofs.Common.{◌≡◌, ◌∙◌, refl, ap, subst, ℕ, zero, suc, ◌*◌, ℤ, pos, neg_ℤ, List, [], ◌∷◌, ◌++◌, map, length}
use Rattle.std.specs.List.{range_with_len}
use Rattle.alternating_theory.specs.Obligations.{Automaton}
use Rattle.gates_theory.specs.declared.circuit.Circuit.{Circuit}
use Rattle.gates_theory.specs.Distinct.{distinct}
use Rattle.gates_theory.specs.Sizes.{IsTooLarge}
use Rattle.gates_theory.specs.Unrolled.{moved, units}
use Rattle.netlist.specs.Design.{Design}
use Rattle.run_formulas.specs.Adding.{held_to}
use Rattle.run_formulas.specs.Windows as windows
use Rattle.joint_theory.specs.Bits.{bad_bit}
use Rattle.joint_theory.specs.Queries.{base, base_variables, induction, induction_variables, joint_circuit, start_literals}

-- the same with any literal in place of the bad variable's
abbrev general_base : Circuit → List ℤ → ℤ → ℕ → List (List ℤ)
general_base circuit start bad zero = [] ∷ []
general_base circuit start bad (suc last) =
    held_to circuit last ++ units 0 start
    ++ (map (λ position. moved (position * length circuit.gates) bad) (range_with_len 0 (suc last)) ∷ [])

abbrev general_induction : Circuit → ℤ → ℕ → List (List ℤ)
general_induction circuit bad window =
    held_to circuit window
    ++ map (λ position. neg_ℤ (moved (position * length circuit.gates) bad) ∷ []) (range_with_len 0 window)
    ++ ((moved (window * length circuit.gates) bad ∷ []) ∷ [])
    ++ distinct circuit (suc window * length circuit.gates) window

module _ (design : Design) (automaton : Automaton) (visits : ℕ) (circuit : Circuit) (bad : ℕ)
    (is : circuit ≡ joint_circuit design automaton visits) (variable : pos bad ≡ bad_bit design automaton visits) where
  pub base-is : (start : List ℤ) → start ≡ start_literals design automaton visits → (window : ℕ)
      → windows.base circuit start bad window ≡ base design automaton visits window
  base-is start first zero = refl
  base-is start first (suc last) =
      ap (λ (c : Circuit). general_base c start (pos bad) (suc last)) is
      ∙ ap (λ (l : List ℤ). general_base (joint_circuit design automaton visits) l (pos bad) (suc last)) first
      ∙ ap (λ (l : ℤ). general_base (joint_circuit design automaton visits) (start_literals design automaton visits) l (suc last)) variable

  pub base-large : (start : List ℤ) → start ≡ start_literals design automaton visits → (window : ℕ)
      → IsTooLarge (windows.base_variables circuit window) (windows.base circuit start bad window)
      → IsTooLarge (base_variables design automaton visits window) (base design automaton visits window)
  base-large start first window large =
      subst (λ (v : ℕ). IsTooLarge v (base design automaton visits window)) (ap (λ (c : Circuit). windows.base_variables c window) is)
      (subst (λ (cs : List (List ℤ)). IsTooLarge (windows.base_variables circuit window) cs) (base-is start first window) large)

  pub induction-is : (window : ℕ) → windows.induction circuit bad window ≡ induction design automaton visits window
  induction-is window =
      ap (λ (c : Circuit). general_induction c (pos bad) window) is
      ∙ ap (λ (l : ℤ). general_induction (joint_circuit design automaton visits) l window) variable

  pub induction-large : (window : ℕ) → IsTooLarge (windows.induction_variables circuit window) (windows.induction circuit bad window)
      → IsTooLarge (induction_variables design automaton visits window) (induction design automaton visits window)
  induction-large window large =
      subst (λ (v : ℕ). IsTooLarge v (induction design automaton visits window)) (ap (λ (c : Circuit). windows.induction_variables c window) is)
      (subst (λ (cs : List (List ℤ)). IsTooLarge (windows.induction_variables circuit window) cs) (induction-is window) large)
