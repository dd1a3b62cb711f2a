-- Worked examples of texts whose models fit together, or do not.
use Rattle.std.specs.Prelude.{◌≡◌, ℕ, true, List, [], ◌∷◌, ◌++◌, codes, decimal, Option, None, Some, Result, Ok, Err}
use Rattle.psl_base.specs.Tokens.{PlacedToken}
use Rattle.blif_flattening.specs.declared.model.Item.TheVariants as items
use Rattle.netlist.specs.declared.latch.Init.TheVariants as inits
use Rattle.netlist.specs.declared.rows.Mark.TheVariants as marks
use Rattle.blif_model.specs.declared.fault.BlifFault.{BlifFault}
use Rattle.blif_model.specs.declared.line.LineKind.TheVariants as kinds
use Rattle.blif_model.specs.Files.{models_of}
use Rattle.blif_flat.specs.Flat.{flat_design}
use Rattle.blif_linking.specs.Linked.{linked, linked_texts}
use Rattle.blif_linking.specs.Names.{Parts, first_bad, first_driven, first_undriven, first_unknown}

-- the models of a text, none where it has a fault
abbrev pub parts_said : Result Parts BlifFault → Parts
parts_said (Ok parts) = parts
parts_said (Err fault) = []

abbrev pub parts_in : List ℕ → Parts
parts_in text = parts_said (models_of text)

-- the top places a model whose output is the next value of a latch turned over
abbrev pub turning : List ℕ
turning = codes ".model top\n.subckt t q=y\n.end\n.model t\n.outputs q\n.latch n q 0\n.names q n\n0 1\n.end\n"

-- the top has one name, which is the output of the model that it places; that model has two names
abbrev pub TurningIsLinked : Type 0
TurningIsLinked =
    linked (parts_in turning)
    ≡ record {
      names = 1;
      items = items.Place (record { model = 1; connections = record { formal = 0; actual = 0 } ∷ [] }) ∷ [];
    }
    ∷ record {
      names = 2;
      items =
          items.Own (record { mentions = 0 ∷ []; kind = kinds.Outputs })
          ∷ items.Own (record { mentions = 1 ∷ 0 ∷ []; kind = kinds.Latch inits.Zero })
          ∷ items.Own (record {
            mentions = 0 ∷ 1 ∷ [];
            kind = kinds.Table (record { rows = (marks.Zero ∷ []) ∷ []; value = true; output_at = 72 });
          })
          ∷ [];
    }
    ∷ []

abbrev pub TurningIsNamed : Type 0
TurningIsNamed = linked_texts (parts_in turning) ≡ (codes "y" ∷ []) ∷ (codes "q" ∷ codes "n" ∷ []) ∷ []

-- the netlist of that text: the formal `u1.q` is a further name of its actual's signal
abbrev pub TurningIsFlat : Type 0
TurningIsFlat =
    flat_design (linked (parts_in turning)) (linked_texts (parts_in turning))
    ≡ record {
      signals = 2;
      inputs = [];
      latches = record { input = 1; output = 0; init = inits.Zero } ∷ [];
      tables = record { inputs = 0 ∷ []; output = 1; rows = (marks.Zero ∷ []) ∷ []; value = true } ∷ [];
      names =
          record { text = codes "y"; signal = 0; left = 0; right = 0 }
          ∷ record { text = 117 ∷ decimal 1 ++ 46 ∷ codes "q"; signal = 0; left = 0; right = 0 }
          ∷ record { text = 117 ∷ decimal 1 ++ 46 ∷ codes "n"; signal = 1; left = 0; right = 0 }
          ∷ [];
    }

-- an actual that no line of its model mentions is a name of it where its connection stands; a connected name of a `.clock`
-- is none
abbrev pub ActualsAreNames : Type 0
ActualsAreNames =
    linked_texts (parts_in (codes ".model m\n.inputs a\n.subckt s x=a c=k q=b\n.outputs b\n.model s\n.inputs x\n.clock c\n.names x q\n.outputs q\n"))
    ≡ (codes "a" ∷ codes "b" ∷ []) ∷ (codes "x" ∷ codes "q" ∷ []) ∷ []

-- a place at which a text is at fault
abbrev pub IsAt : Option PlacedToken → ℕ → ℕ → Type 0
IsAt (Some word) line column = word.place ≡ record { line = line; column = column }
IsAt None line column = ⊥

-- a model that is not there, and none at all
abbrev pub NoSuchModel : Type 0
NoSuchModel = IsAt (first_unknown (parts_in (codes ".model m\n.subckt z q=y\n"))) 2 9

abbrev pub NoModelNamed : Type 0
NoModelNamed = IsAt (first_unknown (parts_in (codes ".model m\n .subckt\n"))) 2 2

-- connections: without a `=`, of a name that is no formal, of one that was connected, and an input that is missing, which
-- goes first
abbrev pub NoEquals : Type 0
NoEquals = IsAt (first_bad (parts_in (codes ".model m\n.subckt s x\n.model s\n"))) 2 11

abbrev pub NoFormal : Type 0
NoFormal = IsAt (first_bad (parts_in (codes ".model m\n.subckt s q=a x=a\n.model s\n.outputs q\n.names q x\n"))) 2 15

abbrev pub FormalTwice : Type 0
FormalTwice = IsAt (first_bad (parts_in (codes ".model m\n.subckt s q=a q==\n.model s\n.outputs q\n"))) 2 15

abbrev pub InputMissing : Type 0
InputMissing = IsAt (first_bad (parts_in (codes ".model m\n.subckt s = =a x=\n.model s\n.inputs x\n"))) 2 9

-- an output that drives what a later line of its model drives; two formals that are inputs and outputs are inputs
abbrev pub DrivenByBoth : Type 0
DrivenByBoth = IsAt (first_driven (parts_in (codes ".model m\n.subckt s q=a\n.inputs a\n.model s\n.outputs q\n"))) 2 11

abbrev pub InputsDriveNothing : Type 0
InputsDriveNothing = first_driven (parts_in (codes ".model m\n.inputs a\n.subckt s q=a r=a\n.model s\n.outputs q r\n.inputs r q\n")) ≡ None

-- an actual of an input that nothing drives, and an output of a placed model that nothing there drives
abbrev pub ActualUndriven : Type 0
ActualUndriven = IsAt (first_undriven (parts_in (codes ".model m\n.subckt s x=a\n.model s\n.inputs x\n"))) 2 11

abbrev pub OutputUndriven : Type 0
OutputUndriven = IsAt (first_undriven (parts_in (codes ".model m\n.subckt s q=a\n.outputs a\n.model s\n.outputs q\n"))) 5 10
