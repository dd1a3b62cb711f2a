-- The worked examples hold.
use Rattle.std.proofs.Common.{◌≢◌, refl, ℕ, List, [], ◌∷◌, inr, length, arith}
use Rattle.psl_lexer.specs.declared.kind.TokenKind.{TokenKind}
use Rattle.psl_lexer.specs.declared.kind.TokenKind.TheVariants as kinds
use Rattle.psl_grammar.specs.Derivation.{Derives, Derives as derived}
use Rattle.psl_grammar.specs.Examples.{token, named, ArrowsGoRight, NextBindsFirst, NextCounts, WithinBindsFirst, AssertIsStatement, FaultIsEarly}
use Rattle.psl_grammar.specs.Parts.{Atom, Pri, Una, Trm, Occ, Suf, Imp, Prop, Bor, Post, Side, Quoted, Sym}
use Rattle.psl_grammar.specs.Reading.{State, Reads, Reads as reads}
use Rattle.psl_grammar.specs.Trees.{Token, Node, Repeat, Posted, Absent, Infix, Prefix, Tok, Tree}
use Rattle.psl_grammar.proofs.Proved.{stop_is_fault}

quoted : {k : TokenKind} {i : ℕ} {ts : List Token} → Derives (Quoted k) (token k i ∷ ts) (Tok (token k i) ∷ []) ts
quoted = derived.quoted refl

-- a name alone
name : {i : ℕ} {ts : List Token} → Derives (Sym Atom) (token kinds.Name i ∷ ts) (Tree (named i) ∷ []) ts
name = derived.symbol (derived.left (derived.both (derived.symbol (derived.both quoted derived.end refl) refl) derived.without refl)) refl

-- what stands alone is an operand of each kind
pri-trm : {ts rest : List Token} {x : Node} → Derives (Sym Pri) ts (Tree x ∷ []) rest → Derives (Sym Trm) ts (Tree x ∷ []) rest
pri-trm h =
    let una = derived.symbol (derived.right (derived.both h derived.without refl)) refl in
    let cmp = derived.symbol (derived.both una derived.without refl) refl in
    let and = derived.symbol (derived.both cmp derived.end refl) refl in
    let or = derived.symbol (derived.both and derived.end refl) refl in
    let clk = derived.symbol (derived.both or derived.without refl) refl in
    derived.symbol (derived.both clk derived.end refl) refl

occ-suf : {ts rest : List Token} {x : Node} → Derives (Sym Occ) ts (Tree x ∷ []) rest → Derives (Sym Suf) ts (Tree x ∷ []) rest
occ-suf h = derived.symbol (derived.both (derived.symbol (derived.both h derived.without refl) refl) derived.without refl) refl

suf-imp : {ts rest : List Token} {x : Node} → Derives (Sym Suf) ts (Tree x ∷ []) rest → Derives (Sym Imp) ts (Tree x ∷ []) rest
suf-imp h = derived.symbol (derived.both h derived.without refl) refl

imp-prop : {ts rest : List Token} {x : Node} → Derives (Sym Imp) ts (Tree x ∷ []) rest → Derives (Sym Prop) ts (Tree x ∷ []) rest
imp-prop h = derived.symbol (derived.right h) refl

atom-trm : {ts rest : List Token} {x : Node} → Derives (Sym Atom) ts (Tree x ∷ []) rest → Derives (Sym Trm) ts (Tree x ∷ []) rest
atom-trm h = pri-trm (derived.symbol (derived.left h) refl)

trm-occ : {ts rest : List Token} {x : Node} → Derives (Sym Trm) ts (Tree x ∷ []) rest → Derives (Sym Occ) ts (Tree x ∷ []) rest
trm-occ h = derived.symbol (derived.right h) refl

name-suf : {i : ℕ} {ts : List Token} → Derives (Sym Suf) (token kinds.Name i ∷ ts) (Tree (named i) ∷ []) ts
name-suf = occ-suf (trm-occ (atom-trm name))

name-prop : {i : ℕ} {ts : List Token} → Derives (Sym Prop) (token kinds.Name i ∷ ts) (Tree (named i) ∷ []) ts
name-prop = imp-prop (suf-imp name-suf)

pub arrows_go_right : ArrowsGoRight
arrows_go_right = imp-prop (derived.symbol (derived.both name-suf (derived.with (derived.both (derived.left quoted) (derived.symbol (derived.right inner) refl) refl)) refl) refl)
  where
    inner : Derives (Sym Imp) (token kinds.Name 2 ∷ token kinds.Arrow 3 ∷ token kinds.Name 4 ∷ []) (Tree (Infix (named 2) (token kinds.Arrow 3) (named 4)) ∷ []) []
    inner = derived.symbol (derived.both name-suf (derived.with (derived.both (derived.left quoted) (derived.symbol (derived.right (suf-imp name-suf)) refl) refl)) refl) refl

pub next_binds_first : NextBindsFirst
next_binds_first =
    imp-prop (derived.symbol (derived.both (occ-suf next) (derived.with (derived.both (derived.left quoted) (derived.symbol (derived.right (suf-imp name-suf)) refl) refl)) refl) refl)
  where
    next : {ts : List Token} → Derives (Sym Occ) (token kinds.Next 0 ∷ token kinds.Name 1 ∷ ts) (Tree (Prefix (token kinds.Next 0) (named 1)) ∷ []) ts
    next = derived.symbol (derived.left (derived.both (derived.left quoted) (trm-occ (atom-trm name)) refl)) refl

pub next_counts : NextCounts
next_counts =
    let form = derived.both (derived.left quoted) (derived.both (derived.both quoted (derived.both quoted quoted refl) refl) (derived.both quoted (derived.both name-prop quoted refl) refl) refl) refl in
    imp-prop (suf-imp (occ-suf (trm-occ (pri-trm (derived.symbol (derived.right (derived.right (derived.symbol (derived.left form) refl))) refl)))))

-- in braces

name-bor : {i : ℕ} {ts : List Token} → Derives (Sym Bor) (token kinds.Name i ∷ ts) (Tree (named i) ∷ []) ts
name-bor =
    let buna = derived.symbol (derived.right name) refl in
    let bcmp = derived.symbol (derived.both buna derived.without refl) refl in
    let band = derived.symbol (derived.both bcmp derived.end refl) refl in
    derived.symbol (derived.both band derived.end refl) refl

plus : {i : ℕ} {ts : List Token} → Derives (Sym Post) (token kinds.PlusRepeat i ∷ ts) (Tree (Repeat (token kinds.PlusRepeat i) Absent) ∷ []) ts
plus = derived.symbol (derived.right (derived.left quoted)) refl

side : {i j : ℕ} {ts : List Token} → Derives (Sym Side) (token kinds.Name i ∷ token kinds.PlusRepeat j ∷ ts) (Tree (Posted (named i) (Repeat (token kinds.PlusRepeat j) Absent)) ∷ []) ts
side = derived.symbol (derived.left (derived.both name-bor (derived.both plus derived.end refl) refl)) refl

pub within_binds_first : WithinBindsFirst
within_binds_first =
    let star = derived.symbol (derived.left (derived.both quoted (derived.both derived.without quoted refl) refl)) refl in
    let within = derived.symbol (derived.more (derived.both quoted side refl) derived.end refl) refl in
    let wide = derived.symbol (derived.more (derived.both (derived.left quoted) (derived.both side (derived.symbol derived.end refl) refl) refl) derived.end refl) refl in
    derived.symbol (derived.both (derived.symbol (derived.left (derived.both name-bor (derived.with (derived.both star (derived.both derived.end (derived.both within wide refl) refl) refl)) refl)) refl) derived.end refl) refl

pub assert_is_statement : AssertIsStatement
assert_is_statement =
    let always = derived.symbol (derived.left (derived.both (derived.left quoted) name-prop refl)) refl in
    let directive = derived.symbol (derived.both (derived.left quoted) (derived.both always (derived.both derived.without quoted refl) refl) refl) refl in
    derived.symbol (derived.left (derived.both derived.without directive refl)) refl

-- the fault: a reader reads the first name, and there is something left
pub fault_is_early : FaultIsEarly
fault_is_early = stop_is_fault Prop from to (inr (named 0, prop, left))
  where
    from : State
    from = record { tokens = token kinds.Name 0 ∷ token kinds.Name 1 ∷ token kinds.Arrow 2 ∷ token kinds.Name 3 ∷ []; limit = 9 }

    to : State
    to = record { tokens = token kinds.Name 1 ∷ token kinds.Arrow 2 ∷ token kinds.Name 3 ∷ []; limit = 9 }

    left : to.tokens ≢ []
    left e = cc

    far : length {A = Token} to.tokens ≢ 9
    far e = omega arith

    takes : Reads (Quoted kinds.Name) from (Tok (token kinds.Name 0) ∷ []) to
    takes = reads.quoted (record { front = refl; kind = refl; below = far; limit = refl })

    atom : Reads (Sym Atom) from (Tree (named 0) ∷ []) to
    atom = reads.symbol (reads.left (record { holds = refl }) (reads.both (reads.symbol (reads.both takes (reads.end (record { holds = refl })) refl) refl) (reads.without (record { holds = refl })) refl)) refl

    una : Reads (Sym Una) from (Tree (named 0) ∷ []) to
    una = reads.symbol (reads.right (record { holds = refl }) (reads.both (reads.symbol (reads.left (record { holds = refl }) atom) refl) (reads.without (record { holds = refl })) refl)) refl

    prop : Reads (Sym Prop) from (Tree (named 0) ∷ []) to
    prop =
        let cmp = reads.symbol (reads.both una (reads.without (record { holds = refl })) refl) refl in
        let and = reads.symbol (reads.both cmp (reads.end (record { holds = refl })) refl) refl in
        let or = reads.symbol (reads.both and (reads.end (record { holds = refl })) refl) refl in
        let clk = reads.symbol (reads.both or (reads.without (record { holds = refl })) refl) refl in
        let trm = reads.symbol (reads.both clk (reads.end (record { holds = refl })) refl) refl in
        let occ = reads.symbol (reads.right (record { holds = refl }) trm) refl in
        let bnd = reads.symbol (reads.both occ (reads.without (record { holds = refl })) refl) refl in
        let suf = reads.symbol (reads.both bnd (reads.without (record { holds = refl })) refl) refl in
        let imp = reads.symbol (reads.both suf (reads.without (record { holds = refl })) refl) refl in
        reads.symbol (reads.right (record { holds = refl }) imp) refl

-- what the law of worked examples asks
pub ruleset examples = (arrows_go_right, next_binds_first, next_counts, within_binds_first, assert_is_statement, fault_is_early)
