-- The relation between code words and the tree that they are. A chain is given by the address of its first cell, a
-- command or a part of a word by that of its cell; 0 is the end of a chain. A word past the end reads as 0.
use Rattle.std.specs.Prelude.{◌≡◌, ℕ, ◌+◌, ◌<◌, List, take, drop, slice_index}
use Rattle.syntax.specs.Tree.{WordPart, literal, parameter, substitution, Word, no_parts, and_part, Words, no_words, and_word, Assignments, no_assignments, assign, Redirects, no_redirects, redirect, Command, simple, group, subshell, if, while, for, case, function, ElsePart, no_else, else, Arms, no_arms, arm, Pipeline, single, piped, AndOr, first, joined, CommandList, end, next}
use Rattle.code.specs.Layout.{flag, kind_code}

module _ (text words : List ℕ) where
  -- bytes of the text: their start stands at a, their number at b
  abbrev pub BytesCode : ℕ → ℕ → List ℕ → Type 0
  BytesCode a b s = take (slice_index words b) (drop (slice_index words a) text) ≡ s

  abbrev mutual
    pub PartCode : ℕ → WordPart → Type 0
    PartCode a (literal q s) = (slice_index words (a + 1) ≡ flag q) × BytesCode (a + 2) (a + 3) s
    PartCode a (parameter q x) = (slice_index words (a + 1) ≡ 2 + flag q) × BytesCode (a + 2) (a + 3) x
    PartCode a (substitution q l) = (slice_index words (a + 1) ≡ 4 + flag q) × ListCode (slice_index words (a + 2)) l

    -- the parts of a word: next, part
    pub WordCode : ℕ → Word → Type 0
    WordCode a no_parts = a ≡ 0
    WordCode a (and_part q w) = (0 < a) × PartCode a q × WordCode (slice_index words a) w

    -- next, word
    pub WordsCode : ℕ → Words → Type 0
    WordsCode a no_words = a ≡ 0
    WordsCode a (and_word w ws) = (0 < a) × WordCode (slice_index words (a + 1)) w × WordsCode (slice_index words a) ws

    -- next, name, value
    pub AssignmentsCode : ℕ → Assignments → Type 0
    AssignmentsCode a no_assignments = a ≡ 0
    AssignmentsCode a (assign x w ss) = (0 < a) × BytesCode (a + 1) (a + 2) x × WordCode (slice_index words (a + 3)) w × AssignmentsCode (slice_index words a) ss

    -- next, kind, word
    pub RedirectsCode : ℕ → Redirects → Type 0
    RedirectsCode a no_redirects = a ≡ 0
    RedirectsCode a (redirect k w ts) = (0 < a) × (slice_index words (a + 1) ≡ kind_code k) × WordCode (slice_index words (a + 2)) w × RedirectsCode (slice_index words a) ts

    pub CommandCode : ℕ → Command → Type 0
    CommandCode a (simple ss ws ts) = (slice_index words (a + 1) ≡ 0) × AssignmentsCode (slice_index words (a + 2)) ss × WordsCode (slice_index words (a + 3)) ws × RedirectsCode (slice_index words (a + 4)) ts
    CommandCode a (group l ts) = (slice_index words (a + 1) ≡ 1) × ListCode (slice_index words (a + 2)) l × RedirectsCode (slice_index words (a + 3)) ts
    CommandCode a (subshell l ts) = (slice_index words (a + 1) ≡ 2) × ListCode (slice_index words (a + 2)) l × RedirectsCode (slice_index words (a + 3)) ts
    CommandCode a (if b c e ts) = (slice_index words (a + 1) ≡ 3) × ListCode (slice_index words (a + 2)) b × ListCode (slice_index words (a + 3)) c × ElseCode (slice_index words (a + 4)) e × RedirectsCode (slice_index words (a + 5)) ts
    CommandCode a (while b c ts) = (slice_index words (a + 1) ≡ 4) × ListCode (slice_index words (a + 2)) b × ListCode (slice_index words (a + 3)) c × RedirectsCode (slice_index words (a + 4)) ts
    CommandCode a (for x ws l ts) = (slice_index words (a + 1) ≡ 5) × BytesCode (a + 2) (a + 3) x × WordsCode (slice_index words (a + 4)) ws × ListCode (slice_index words (a + 5)) l × RedirectsCode (slice_index words (a + 6)) ts
    CommandCode a (case w is ts) = (slice_index words (a + 1) ≡ 6) × WordCode (slice_index words (a + 2)) w × ArmsCode (slice_index words (a + 3)) is × RedirectsCode (slice_index words (a + 4)) ts
    CommandCode a (function x l) = (slice_index words (a + 1) ≡ 7) × BytesCode (a + 2) (a + 3) x × ListCode (slice_index words (a + 4)) l

    -- the list; 0 where there is no else
    pub ElseCode : ℕ → ElsePart → Type 0
    ElseCode a no_else = a ≡ 0
    ElseCode a (else l) = (0 < a) × ListCode (slice_index words a) l

    -- next, pattern, list
    pub ArmsCode : ℕ → Arms → Type 0
    ArmsCode a no_arms = a ≡ 0
    ArmsCode a (arm w l is) = (0 < a) × WordCode (slice_index words (a + 1)) w × ListCode (slice_index words (a + 2)) l × ArmsCode (slice_index words a) is

    -- next, command
    pub PipelineCode : ℕ → Pipeline → Type 0
    PipelineCode a (single c) = (0 < a) × CommandCode a c × (slice_index words a ≡ 0)
    PipelineCode a (piped c p) = (0 < a) × CommandCode a c × PipelineCode (slice_index words a) p

    -- the one before, whether && stands between them, whether ! stands before the pipeline, the pipeline
    pub AndOrCode : ℕ → AndOr → Type 0
    AndOrCode a (first n p) = (0 < a) × (slice_index words a ≡ 0) × (slice_index words (a + 2) ≡ flag n) × PipelineCode (slice_index words (a + 3)) p
    AndOrCode a (joined c b n p) = (0 < a) × AndOrCode (slice_index words a) c × (slice_index words (a + 1) ≡ flag b) × (slice_index words (a + 2) ≡ flag n) × PipelineCode (slice_index words (a + 3)) p

    -- next, whether & stands behind, the last of the chain of && and ||
    pub ListCode : ℕ → CommandList → Type 0
    ListCode a end = a ≡ 0
    ListCode a (next c b l) = (0 < a) × (slice_index words (a + 1) ≡ flag b) × AndOrCode (slice_index words (a + 2)) c × ListCode (slice_index words a) l
