-- A certificate is read behind the text and the netlist.
use Rattle.std.proofs.Common.{ℕ, List, [], ◌∷◌, Ok, Err, inl, inr}
use Rattle.std.specs.Prelude.{Result}
use Rattle.psl_base.specs.Shelf.{ShelfState}
use Rattle.commands.proofs.Composing.{stage-among, stage-first, stage-then}
use Rattle.commands.specs.Checks.{CertStage, CheckStage}
use Rattle.commands.specs.Stages.{IsOfFiles, IsStage}
use Rattle.commands.specs.Waves.{SubjectStage}
use Rattle.commands.specs.declared.outcome.CheckedCert.{CheckedCert}
use Rattle.commands.specs.declared.outcome.Fault.{Fault}
use Rattle.commands.specs.declared.subject.Subject.{Subject}

-- the files of the text, of the netlist and of the certificate
once : (unit netlist certificate : List ℕ) (fault : Fault) → IsOfFiles (unit ∷ netlist ∷ unit ∷ netlist ∷ certificate ∷ []) fault
    → IsOfFiles (unit ∷ netlist ∷ certificate ∷ []) fault
once unit netlist certificate fault (inl is) = inl is
once unit netlist certificate fault (inr (inl is)) = inr (inl is)
once unit netlist certificate fault (inr (inr h)) = h

module _ (unit netlist : List ℕ) (number : ℕ) (certificate : List ℕ) where
  pub asks-first : (old new : ShelfState) (fault : Fault) → IsStage (unit ∷ netlist ∷ []) (SubjectStage unit netlist) old new (Err fault)
      → IsStage (unit ∷ netlist ∷ certificate ∷ []) (CheckStage unit netlist number certificate) old new (Err fault)
  asks-first old new fault s =
      stage-first (unit ∷ netlist ∷ []) (certificate ∷ []) (SubjectStage unit netlist) (CertStage unit netlist number certificate) old new fault s

  pub asks-then : (old mid new : ShelfState) (subject : Subject) (result : Result CheckedCert Fault)
      → IsStage (unit ∷ netlist ∷ []) (SubjectStage unit netlist) old mid (Ok subject)
      → IsStage (unit ∷ netlist ∷ certificate ∷ []) (CertStage unit netlist number certificate subject) mid new result
      → IsStage (unit ∷ netlist ∷ certificate ∷ []) (CheckStage unit netlist number certificate) old new result
  asks-then old mid new subject result s t =
      stage-among (unit ∷ netlist ∷ unit ∷ netlist ∷ certificate ∷ []) (unit ∷ netlist ∷ certificate ∷ []) (once unit netlist certificate)
      (CheckStage unit netlist number certificate) old new result
      (stage-then (unit ∷ netlist ∷ []) (unit ∷ netlist ∷ certificate ∷ []) (SubjectStage unit netlist) (CertStage unit netlist number certificate)
      old mid new subject result s t)
