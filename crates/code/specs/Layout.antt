-- Trees as code, with the bounds between which each node's words stand. Chains are cells whose first word links to the
-- next; 0 is the end. Bytes are given by where they start in the text and how many they are.
use Rattle.std.specs.Prelude.{◌≡◌, ℕ, ◌+◌, ◌<◌, ◌≤◌, Bool, List, take, drop, slice_index}
use Rattle.syntax.specs.Base.{pick}
use Rattle.syntax.specs.Tree.{WordPart, literal, parameter, substitution, Word, no_parts, and_part, Words, no_words, and_word, Assignments, no_assignments, assign, RedirectKind, input, output, append, here, Redirects, no_redirects, redirect, Command, simple, group, subshell, if, while, for, case, function, ElsePart, no_else, else, Arms, no_arms, arm, Pipeline, single, piped, AndOr, first, joined, CommandList, end, next}

abbrev pub flag : Bool → ℕ
flag b = pick b 1 0

abbrev pub kind_code : RedirectKind → ℕ
kind_code input = 0
kind_code output = 1
kind_code append = 2
kind_code here = 3

-- the link at p leads to a cell of n words at a; what belongs to it ends at mid
abbrev pub Cell : ℕ → ℕ → ℕ → ℕ → List ℕ → ℕ → ℕ → Type 0
Cell n lo mid hi m p a = (slice_index m p ≡ a) × (lo ≤ a) × (0 < a) × (a + n ≤ mid) × (mid ≤ hi)

module _ (t : List ℕ) where
  -- bytes of the text: their start stands at a, their number at b
  abbrev pub BytesAt : List ℕ → List ℕ → ℕ → ℕ → Type 0
  BytesAt s m a b = take (slice_index m b) (drop (slice_index m a) t) ≡ s

  abbrev mutual
    -- a part: next, tag, start and length or the link of a list and nothing
    pub PartAt : WordPart → ℕ → ℕ → List ℕ → Type 0
    PartAt (literal q s) a hi m = (slice_index m (a + 1) ≡ flag q) × BytesAt s m (a + 2) (a + 3)
    PartAt (parameter q x) a hi m = (slice_index m (a + 1) ≡ 2 + flag q) × BytesAt x m (a + 2) (a + 3)
    PartAt (substitution q l) a hi m = (slice_index m (a + 1) ≡ 4 + flag q) × ListAt l (a + 4) hi m (a + 2)

    pub PartsAt : Word → ℕ → ℕ → List ℕ → ℕ → Type 0
    PartsAt no_parts lo hi m p = slice_index m p ≡ 0
    PartsAt (and_part q w) lo hi m p = (a : ℕ) × (mid : ℕ) × Cell 4 lo mid hi m p a × PartAt q a mid m × PartsAt w mid hi m a

    -- a word: next, parts
    pub WordsAt : Words → ℕ → ℕ → List ℕ → ℕ → Type 0
    WordsAt no_words lo hi m p = slice_index m p ≡ 0
    WordsAt (and_word w ws) lo hi m p = (a : ℕ) × (mid : ℕ) × Cell 2 lo mid hi m p a × PartsAt w (a + 2) mid m (a + 1) × WordsAt ws mid hi m a

    -- an assignment: next, start and length of the name, parts of the value
    pub AssignmentsAt : Assignments → ℕ → ℕ → List ℕ → ℕ → Type 0
    AssignmentsAt no_assignments lo hi m p = slice_index m p ≡ 0
    AssignmentsAt (assign x w ss) lo hi m p = (a : ℕ) × (mid : ℕ) × Cell 4 lo mid hi m p a × BytesAt x m (a + 1) (a + 2) × PartsAt w (a + 4) mid m (a + 3) × AssignmentsAt ss mid hi m a

    -- a redirection: next, kind, parts of the word
    pub RedirectsAt : Redirects → ℕ → ℕ → List ℕ → ℕ → Type 0
    RedirectsAt no_redirects lo hi m p = slice_index m p ≡ 0
    RedirectsAt (redirect k w ts) lo hi m p = (a : ℕ) × (mid : ℕ) × Cell 3 lo mid hi m p a × (slice_index m (a + 1) ≡ kind_code k) × PartsAt w (a + 3) mid m (a + 2) × RedirectsAt ts mid hi m a

    -- a command: the next of its pipeline, tag, the links of its parts, of its redirections the last
    pub CommandAt : Command → ℕ → ℕ → List ℕ → Type 0
    CommandAt (simple ss ws ts) a hi m = (x : ℕ) × (y : ℕ) × (slice_index m (a + 1) ≡ 0) × (a + 5 ≤ x) × (x ≤ y) × (y ≤ hi) × AssignmentsAt ss (a + 5) x m (a + 2) × WordsAt ws x y m (a + 3) × RedirectsAt ts y hi m (a + 4)
    CommandAt (group l ts) a hi m = (x : ℕ) × (slice_index m (a + 1) ≡ 1) × (a + 4 ≤ x) × (x ≤ hi) × ListAt l (a + 4) x m (a + 2) × RedirectsAt ts x hi m (a + 3)
    CommandAt (subshell l ts) a hi m = (x : ℕ) × (slice_index m (a + 1) ≡ 2) × (a + 4 ≤ x) × (x ≤ hi) × ListAt l (a + 4) x m (a + 2) × RedirectsAt ts x hi m (a + 3)
    CommandAt (if b c e ts) a hi m = (x : ℕ) × (y : ℕ) × (z : ℕ) × (slice_index m (a + 1) ≡ 3) × (a + 6 ≤ x) × (x ≤ y) × (y ≤ z) × (z ≤ hi) × ListAt b (a + 6) x m (a + 2) × ListAt c x y m (a + 3) × ElseAt e y z m (a + 4) × RedirectsAt ts z hi m (a + 5)
    CommandAt (while b c ts) a hi m = (x : ℕ) × (y : ℕ) × (slice_index m (a + 1) ≡ 4) × (a + 5 ≤ x) × (x ≤ y) × (y ≤ hi) × ListAt b (a + 5) x m (a + 2) × ListAt c x y m (a + 3) × RedirectsAt ts y hi m (a + 4)
    CommandAt (for v ws l ts) a hi m = (x : ℕ) × (y : ℕ) × (slice_index m (a + 1) ≡ 5) × (a + 7 ≤ x) × (x ≤ y) × (y ≤ hi) × BytesAt v m (a + 2) (a + 3) × WordsAt ws (a + 7) x m (a + 4) × ListAt l x y m (a + 5) × RedirectsAt ts y hi m (a + 6)
    CommandAt (case w is ts) a hi m = (x : ℕ) × (y : ℕ) × (slice_index m (a + 1) ≡ 6) × (a + 5 ≤ x) × (x ≤ y) × (y ≤ hi) × PartsAt w (a + 5) x m (a + 2) × ArmsAt is x y m (a + 3) × RedirectsAt ts y hi m (a + 4)
    CommandAt (function v l) a hi m = (slice_index m (a + 1) ≡ 7) × (a + 5 ≤ hi) × BytesAt v m (a + 2) (a + 3) × ListAt l (a + 5) hi m (a + 4)

    -- an else part: the link of its list; 0 where there is no else
    pub ElseAt : ElsePart → ℕ → ℕ → List ℕ → ℕ → Type 0
    ElseAt no_else lo hi m p = slice_index m p ≡ 0
    ElseAt (else l) lo hi m p = (a : ℕ) × Cell 1 lo hi hi m p a × ListAt l (a + 1) hi m a

    -- an arm: next, parts of the pattern, the link of the list
    pub ArmsAt : Arms → ℕ → ℕ → List ℕ → ℕ → Type 0
    ArmsAt no_arms lo hi m p = slice_index m p ≡ 0
    ArmsAt (arm w l is) lo hi m p = (a : ℕ) × (mid : ℕ) × (x : ℕ) × Cell 3 lo mid hi m p a × (a + 3 ≤ x) × (x ≤ mid) × PartsAt w (a + 3) x m (a + 1) × ListAt l x mid m (a + 2) × ArmsAt is mid hi m a

    pub PipelineAt : Pipeline → ℕ → ℕ → List ℕ → ℕ → Type 0
    PipelineAt (single c) lo hi m p = (a : ℕ) × (mid : ℕ) × Cell 2 lo mid hi m p a × CommandAt c a mid m × (slice_index m a ≡ 0)
    PipelineAt (piped c q) lo hi m p = (a : ℕ) × (mid : ℕ) × Cell 2 lo mid hi m p a × CommandAt c a mid m × PipelineAt q mid hi m a

    -- a pipeline of a chain of && and ||: the one before, whether && stands between them, whether ! stands before it,
    -- its link; the chain is given by its last, at a
    pub AndOrAt : AndOr → ℕ → ℕ → List ℕ → ℕ → Type 0
    AndOrAt (first n q) lo hi m a = (lo ≤ a) × (a + 4 ≤ hi) × (slice_index m a ≡ 0) × (slice_index m (a + 2) ≡ flag n) × PipelineAt q (a + 4) hi m (a + 3)
    AndOrAt (joined c b n q) lo hi m a = (k : ℕ) × (lo ≤ a) × (a + 4 ≤ hi) × (slice_index m a ≡ k) × (0 < k) × (slice_index m (a + 1) ≡ flag b) × (slice_index m (a + 2) ≡ flag n) × AndOrAt c lo a m k × PipelineAt q (a + 4) hi m (a + 3)

    -- a list: next, whether & stands behind, the last of the chain of && and ||
    pub ListAt : CommandList → ℕ → ℕ → List ℕ → ℕ → Type 0
    ListAt end lo hi m p = slice_index m p ≡ 0
    ListAt (next c b l) lo hi m p = (a : ℕ) × (mid : ℕ) × (k : ℕ) × Cell 3 lo mid hi m p a × (slice_index m (a + 1) ≡ flag b) × (slice_index m (a + 2) ≡ k) × AndOrAt c (a + 3) mid m k × ListAt l mid hi m a
