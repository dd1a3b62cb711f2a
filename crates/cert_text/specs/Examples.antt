-- Worked examples: a certificate whose logs refute, one of them with a drop, and its text in both versions; and one of
-- clauses.
use Rattle.std.specs.Prelude.{◌≡◌, pos, negsuc, [], ◌∷◌, ◌++◌, codes}
use Rattle.cert_theory.specs.declared.certificate.Certificate.{Certificate}
use Rattle.cert_theory.specs.declared.certificate.InductiveCert.{InductiveCert}
use Rattle.cert_theory.specs.declared.header.Version.TheVariants.{One, Two}
use Rattle.cert_theory.specs.Examples.{assertion, contradictions}
use Rattle.cert_theory.specs.Printed.{cert_text, inductive_text}
use Rattle.clauses.specs.Logs.LogEntry.{Lemma, Forget}
use Rattle.cert_text.specs.Evidence.{IsEvidence, IsInductiveEvidence}

abbrev pub certificate : Certificate
certificate = record {
  assertion = 1;
  visits = 0;
  window = 1;
  base = Lemma (pos 1 ∷ []) (1 ∷ []) ∷ Forget 3 ∷ Lemma [] (1 ∷ 2 ∷ []) ∷ [];
  induction = Lemma [] (1 ∷ 2 ∷ []) ∷ [];
}

abbrev pub IsEvident : Type 0
IsEvident = IsEvidence (assertion 1) contradictions certificate

abbrev pub HasText : Type 0
HasText =
    cert_text Two certificate
    ≡ codes "pslc-cert 2\nassertion 1\nvisits 0\nwindow 1\nlive 1\n"
    ++ codes "base\n1 0 1 0\nd 3\n0 1 2 0\ninduction\n0 1 2 0\nend\n"

abbrev pub HasFirstText : Type 0
HasFirstText =
    cert_text One certificate
    ≡ codes "pslc-cert 1\nassertion 1\nvisits 0\nwindow 1\n"
    ++ codes "base\n1 0 1 0\n0 1 2 0\ninduction\n0 1 2 0\nend\n"

abbrev pub inductive : InductiveCert
inductive = record {
  assertion = 1;
  visits = 0;
  clauses = (pos 1 ∷ (negsuc 2 ∷ [])) ∷ (pos 2 ∷ []) ∷ [];
  initial = Lemma [] (1 ∷ 2 ∷ []) ∷ [];
  step = Lemma (pos 1 ∷ []) (1 ∷ []) ∷ Forget 3 ∷ Lemma [] (1 ∷ 2 ∷ []) ∷ [];
  bad = Lemma [] (1 ∷ 2 ∷ []) ∷ [];
}

abbrev pub IsInductivelyEvident : Type 0
IsInductivelyEvident = IsInductiveEvidence (assertion 1) contradictions inductive

abbrev pub HasInductiveText : Type 0
HasInductiveText =
    inductive_text inductive
    ≡ codes "pslc-cert 3\nassertion 1\nvisits 0\nlive 1\nclauses\n1 -3 0\n2 0\ninitial\n0 1 2 0\n"
    ++ codes "step\n1 0 1 0\nd 3\n0 1 2 0\nbad\n0 1 2 0\nend\n"
