-- Literals of signals stay literals of the variables that there are, while nodes are added and others are written.
use Rattle.std.proofs.Common.{◌≡◌, ℕ, ◌≤◌, ℤ, true, cond, List, Ok, set, sym, ap, subst}
use Rattle.std.proofs.lemmas.List.Elements.{All-set}
use Rattle.gates_nodes.specs.Folding.{Built}
use Rattle.gates_nodes.specs.Nodes.{variables_of}
use Rattle.gates_builder.specs.Adding.{Adds, AreOf, IsOf, Making}
use Rattle.gates_builder.proofs.Growing.{all-more, more-added, of-added}
use Rattle.gates_frames.specs.Frames.{Cone, written}
use Rattle.gates_unroll.specs.Adding.{frame_of, Writes}

-- a literal that was added stands among others
set-added : (old new : Making) (literals : List ℤ) (signal : ℕ) (built : Built) (l : ℤ) → variables_of old.given old.nodes ≤ variables_of old.given built.nodes → AreOf old literals
    → Adds old new built (Ok l) → AreOf new (set literals signal l)
set-added old new literals signal built l more of adds =
    All-set (IsOf new) literals signal l (of-added old new built l adds) (all-more old new literals (more-added old new built l more adds) of)

-- and it is that of a signal in the cone
pub writes-added : (old new : Making) (cone : Cone) (literals : List ℤ) (signal : ℕ) (built : Built) (l : ℤ) → cone signal ≡ true → variables_of old.given old.nodes ≤ variables_of old.given built.nodes
    → AreOf old literals → Adds old new built (Ok l) → Writes old new (set literals signal l) (written cone (frame_of old literals) signal built) (Ok tt)
writes-added old new cone literals signal built l inside more of adds =
    let whole : record { nodes = built.nodes; literals = set literals signal built.output } ≡ written cone (frame_of old literals) signal built =
    sym (ap (λ t. cond t (record { nodes = built.nodes; literals = set literals signal built.output }) (frame_of old literals)) inside) in
    subst (λ frame. Writes old new (set literals signal l) frame (Ok tt)) whole
    (record {
      making = adds.making;
      literals = ap (set literals signal) adds.output;
      are = set-added old new literals signal built l more of adds;
      more = more-added old new built l more adds;
      large = tt;
    })
