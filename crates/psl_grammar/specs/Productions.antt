-- The grammar: the production of each symbol (IEEE 1850, Annex A, in the profile of this tool).
use Rattle.psl_lexer.specs.declared.kind.TokenKind.TheVariants as kinds
use Rattle.psl_grammar.specs.Parts.{Symbol, Text, Vunit, Statement, Directive, Declaration, Prop, Imp, ImpRight, Suf, Bnd, Occ, Trm, Clk, Or, And, Cmp, Una, Pri, Atom, Path, Counted, Sere, Fus, Alt, Conj, Wtail, Ctail, Side, Start, Bor, Band, Bcmp, Buna, Post, Clk0, Count, Part, Quoted, Sym, ◌~◌, ◌//◌, Many, Maybe}

-- always, never
abbrev pub invariance : Part
invariance = Quoted kinds.Always // Quoted kinds.Never

-- -> and <->
abbrev pub implications : Part
implications = Quoted kinds.Arrow // Quoted kinds.Iff

-- |-> and |=>
abbrev pub suffixes : Part
suffixes = Quoted kinds.Implies // Quoted kinds.ImpliesNext

-- ==, !=, <, <=, > and >=
abbrev pub comparisons : Part
comparisons =
    Quoted kinds.EqualEqual // Quoted kinds.NotEqual // Quoted kinds.Less // Quoted kinds.LessEqual
    // Quoted kinds.Greater // Quoted kinds.GreaterEqual

-- & and && of sequences
abbrev pub sequence_ands : Part
sequence_ands = Quoted kinds.Ampersand // Quoted kinds.AndAnd

-- the words that begin with `until` or `before`
abbrev pub until : Part
until =
    Quoted kinds.Until // Quoted kinds.UntilStrong // Quoted kinds.UntilOverlap // Quoted kinds.UntilStrongOverlap
    // Quoted kinds.Before // Quoted kinds.BeforeStrong // Quoted kinds.BeforeOverlap // Quoted kinds.BeforeStrongOverlap

-- next_a and next_e, weak and strong
abbrev pub next_range : Part
next_range = Quoted kinds.NextA // Quoted kinds.NextAStrong // Quoted kinds.NextE // Quoted kinds.NextEStrong

-- next_event_a and next_event_e, weak and strong
abbrev pub event_range : Part
event_range = Quoted kinds.NextEventA // Quoted kinds.NextEventAStrong // Quoted kinds.NextEventE // Quoted kinds.NextEventEStrong

-- abort, async_abort, sync_abort
abbrev pub aborts : Part
aborts = Quoted kinds.Abort // Quoted kinds.AsyncAbort // Quoted kinds.SyncAbort

-- posedge, negedge
abbrev pub edge : Part
edge = Quoted kinds.Posedge // Quoted kinds.Negedge

-- ( prop )
abbrev pub grouped : Part
grouped = Quoted kinds.ParenOpen ~ Sym Prop ~ Quoted kinds.ParenClose

-- [ NUMBER ]
abbrev pub index : Part
index = Quoted kinds.BracketOpen ~ Quoted kinds.Number ~ Quoted kinds.BracketClose

-- [ NUMBER : NUMBER ]
abbrev pub range : Part
range = Quoted kinds.BracketOpen ~ Quoted kinds.Number ~ Quoted kinds.Colon ~ Quoted kinds.Number ~ Quoted kinds.BracketClose

abbrev pub production : Symbol → Part
production Text = Sym Vunit ~ Many (Sym Vunit) // Many (Sym Statement)
production Vunit =
    Quoted kinds.Vunit ~ Quoted kinds.Name ~ Maybe (Quoted kinds.ParenOpen ~ Sym Path ~ Quoted kinds.ParenClose)
    ~ Quoted kinds.BraceOpen ~ Many (Sym Statement) ~ Quoted kinds.BraceClose
production Statement = Maybe (Quoted kinds.Name ~ Quoted kinds.Colon) ~ Sym Directive // Sym Declaration
production Directive =
    (Quoted kinds.Assert // Quoted kinds.Assume // Quoted kinds.Cover) ~ Sym Prop
    ~ Maybe (Quoted kinds.Report ~ Quoted kinds.Quoted) ~ Quoted kinds.Semicolon
production Declaration =
    Quoted kinds.Sequence ~ Quoted kinds.Name ~ Quoted kinds.Equals ~ Sym Prop ~ Quoted kinds.Semicolon
    // Quoted kinds.Property ~ Quoted kinds.Name ~ Quoted kinds.Equals ~ Sym Prop ~ Quoted kinds.Semicolon
    // Quoted kinds.Default ~ Quoted kinds.Clock ~ Quoted kinds.Equals ~ Sym Prop ~ Quoted kinds.Semicolon
production Prop = invariance ~ Sym Prop // Sym Imp
production Imp = Sym Suf ~ Maybe (implications ~ Sym ImpRight)
production ImpRight = invariance ~ Sym Prop // Sym Imp
production Suf = Sym Bnd ~ Maybe (suffixes ~ Sym Suf)
production Bnd = Sym Occ ~ Maybe (until ~ Sym Bnd)
production Occ = (Quoted kinds.Next // Quoted kinds.NextStrong // Quoted kinds.EventuallyStrong) ~ Sym Occ // Sym Trm
production Trm = Sym Clk ~ Many (aborts ~ Sym Or)
production Clk = Sym Or ~ Maybe (Sym Post ~ Many (Sym Post) ~ Maybe (Quoted kinds.Not))
production Or = Sym And ~ Many (Quoted kinds.OrOr ~ Sym And)
production And = Sym Cmp ~ Many (Quoted kinds.AndAnd ~ Sym Cmp)
production Cmp = Sym Una ~ Maybe (comparisons ~ Sym Una)
production Una = Quoted kinds.Not ~ Sym Una // Sym Pri ~ Maybe (Quoted kinds.Not)
production Pri = Sym Atom // Quoted kinds.BraceOpen ~ Sym Sere ~ Quoted kinds.BraceClose // Sym Counted
production Atom =
    Sym Path ~ Maybe index // Quoted kinds.Number // Quoted kinds.Constant // Quoted kinds.True // Quoted kinds.False
    // edge ~ Sym Path ~ Maybe index // grouped
production Path = Quoted kinds.Name ~ Many (Quoted kinds.Dot ~ Quoted kinds.Name)
production Counted =
    (Quoted kinds.Next // Quoted kinds.NextStrong) ~ index ~ grouped
    // next_range ~ range ~ grouped
    // (Quoted kinds.NextEvent // Quoted kinds.NextEventStrong) ~ grouped ~ Maybe index ~ grouped
    // event_range ~ grouped ~ range ~ grouped
production Sere = Sym Fus ~ Many (Quoted kinds.Semicolon ~ Sym Fus)
production Fus = Sym Alt ~ Many (Quoted kinds.Colon ~ Sym Alt)
production Alt = Sym Conj ~ Many (Quoted kinds.Bar ~ Sym Conj)
production Conj =
    Sym Bor ~ Maybe (Sym Post ~ Many (Sym Post) ~ Sym Wtail ~ Sym Ctail)
    // Sym Start ~ Many (Sym Post) ~ Sym Wtail ~ Sym Ctail
production Wtail = Many (Quoted kinds.Within ~ Sym Side)
production Ctail = Many (sequence_ands ~ Sym Side ~ Sym Wtail)
production Side = Sym Bor ~ Sym Post ~ Many (Sym Post) // Sym Start ~ Many (Sym Post)
production Start =
    Quoted kinds.BraceOpen ~ Sym Sere ~ Quoted kinds.BraceClose
    // Quoted kinds.StarOpen ~ Maybe (Sym Count) ~ Quoted kinds.BracketClose
    // Quoted kinds.PlusRepeat
production Bor = Sym Band ~ Many (Quoted kinds.OrOr ~ Sym Band)
production Band = Sym Bcmp ~ Many (Quoted kinds.AndAnd ~ Sym Bcmp)
production Bcmp = Sym Buna ~ Maybe (comparisons ~ Sym Buna)
production Buna = Quoted kinds.Not ~ Sym Buna // Sym Atom
production Post =
    Quoted kinds.StarOpen ~ Maybe (Sym Count) ~ Quoted kinds.BracketClose
    // Quoted kinds.PlusRepeat
    // Quoted kinds.GotoOpen ~ Maybe (Sym Count) ~ Quoted kinds.BracketClose
    // Quoted kinds.EqualsOpen ~ Sym Count ~ Quoted kinds.BracketClose
    // Quoted kinds.At ~ Sym Clk0
production Clk0 = Sym Path ~ Maybe index // Quoted kinds.True // Quoted kinds.False // grouped // edge ~ Sym Path ~ Maybe index
production Count = Quoted kinds.Number ~ Maybe (Quoted kinds.Colon ~ (Quoted kinds.Number // Quoted kinds.Inf))
