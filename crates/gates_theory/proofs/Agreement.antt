-- Assignments that agree on the variables of what they are asked about.
use Rattle.std.proofs.Common.{◌≡◌, ℕ, suc, ◌+◌, ◌<◌, ◌≤◌, ℤ, pos, negsuc, not, List, [], ◌∷◌, length, refl, sym, ap, ◌∙◌, arith}
use Rattle.std.specs.Bool.{IsTrue}
use Rattle.std.specs.List.{list_all}
use Rattle.std.proofs.lemmas.Bool.{and_parts}
use Rattle.clauses.specs.Literals.{is_within, clause_within, clauses_within}
use Rattle.clauses.specs.Models.{Assignment, is_true, meets}
use Rattle.gates_theory.specs.declared.circuit.Circuit.{Circuit}
use Rattle.gates_theory.specs.declared.circuit.Gate.{Gate}
use Rattle.gates_theory.specs.declared.circuit.Gate.TheVariants.{Free, And}
use Rattle.gates_theory.specs.Circuits.{IsSound, IsPath, AreSame, gate_within, gates_within, gate_holds, gates_hold, literal_values}
use Rattle.gates_theory.proofs.Literals.{shifted, within_is}
use Rattle.gates_theory.proofs.Models.{now_within}

pub same-fewer : (few more : ℕ) (v w : Assignment) → few ≤ more → AreSame more v w → AreSame few v w
same-fewer few more v w order agree k some fits = agree k some (omega arith)

pub same-then : (n : ℕ) (u v w : Assignment) → AreSame n u v → AreSame n v w → AreSame n u w
same-then n u v w first second k some fits = first k some fits ∙ second k some fits

pub same-shifted : (base n : ℕ) (v w : Assignment) → AreSame (base + n) v w → AreSame n (shifted base v) (shifted base w)
same-shifted base n v w agree k some fits = agree (base + k) (omega arith) (omega arith)

-- literals
pub same-literal : (n : ℕ) (v w : Assignment) → AreSame n v w → (literal : ℤ) → IsTrue (is_within n literal) → is_true v literal ≡ is_true w literal
same-literal n v w agree (pos k) within = let parts = within_is n (pos k) within in agree k parts.0 parts.1
same-literal n v w agree (negsuc k) within = let parts = within_is n (negsuc k) within in ap not (agree (suc k) parts.0 parts.1)

pub same-values : (n : ℕ) (v w : Assignment) → AreSame n v w → (literals : List ℤ) → IsTrue (clause_within n literals) → literal_values v literals ≡ literal_values w literals
same-values n v w agree [] within = refl
same-values n v w agree (literal ∷ literals) within =
    let parts = and_parts (is_within n literal) (clause_within n literals) within in
    rw (same-literal n v w agree literal parts.0, same-values n v w agree literals parts.1)

pub same-all : (n : ℕ) (v w : Assignment) → AreSame n v w → (literals : List ℤ) → IsTrue (clause_within n literals) → list_all (is_true v) literals ≡ list_all (is_true w) literals
same-all n v w agree [] within = refl
same-all n v w agree (literal ∷ literals) within =
    let parts = and_parts (is_within n literal) (clause_within n literals) within in
    rw (same-literal n v w agree literal parts.0, same-all n v w agree literals parts.1)

-- clauses
pub same-meets : (n : ℕ) (v w : Assignment) → AreSame n v w → (clause : List ℤ) → IsTrue (clause_within n clause) → meets v clause ≡ meets w clause
same-meets n v w agree [] within = refl
same-meets n v w agree (literal ∷ literals) within =
    let parts = and_parts (is_within n literal) (clause_within n literals) within in
    rw (same-literal n v w agree literal parts.0, same-meets n v w agree literals parts.1)

pub same-met : (n : ℕ) (v w : Assignment) → AreSame n v w → (clauses : List (List ℤ)) → IsTrue (clauses_within n clauses) → list_all (meets v) clauses ≡ list_all (meets w) clauses
same-met n v w agree [] within = refl
same-met n v w agree (clause ∷ clauses) within =
    let parts = and_parts (clause_within n clause) (clauses_within n clauses) within in
    rw (same-meets n v w agree clause parts.0, same-met n v w agree clauses parts.1)

-- gates
pub same-gate : (before : ℕ) (v w : Assignment) → AreSame (suc before) v w → (gate : Gate) → IsTrue (gate_within before gate) → gate_holds v before gate ≡ gate_holds w before gate
same-gate before v w agree Free within = refl
same-gate before v w agree (And first second) within =
    let parts = and_parts (is_within before first) (is_within before second) within in
    let few = same-fewer before (suc before) v w (omega arith) agree in
    rw (agree (suc before) (omega arith) (omega arith), same-literal before v w few first parts.0, same-literal before v w few second parts.1)

pub same-gates : (before : ℕ) (v w : Assignment) (gates : List Gate) → AreSame (before + length gates) v w → IsTrue (gates_within before gates) → gates_hold v before gates ≡ gates_hold w before gates
same-gates before v w [] agree within = refl
same-gates before v w (gate ∷ gates) agree within =
    let parts = and_parts (gate_within before gate) (gates_within (suc before) gates) within in
    let here = same-fewer (suc before) (before + length (gate ∷ gates)) v w (omega arith) agree in
    let rest = same-fewer (suc before + length gates) (before + length (gate ∷ gates)) v w (omega arith) agree in
    rw (same-gate before v w here gate parts.0, same-gates (suc before) v w gates rest parts.1)

-- paths
pub same-path : (c : Circuit) (positions : ℕ) (v w : ℕ → Assignment) → IsSound c → ((i : ℕ) → i < positions → AreSame (length c.gates) (v i) (w i)) → IsPath c positions v → IsPath c positions w
same-path c positions v w sound agree path =
    let g = length c.gates in
    let now = now_within c sound in
    record {
      gates = λ i below. sym (same-gates 0 (v i) (w i) c.gates (same-fewer (0 + g) g (v i) (w i) (omega arith) (agree i below)) sound.gates) ∙ path.gates i below;
      hold = λ i below. sym (same-all g (v i) (w i) (agree i (omega arith)) c.hold sound.hold) ∙ path.hold i below;
      moves = λ i below.
          sym (same-values g (v (suc i)) (w (suc i)) (agree (suc i) below) c.now now)
          ∙ path.moves i below
          ∙ same-values g (v i) (w i) (agree i (omega arith)) c.next sound.next;
    }
