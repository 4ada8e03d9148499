-- Code between bounds is code.
use Rattle.std.proofs.Common.{◌≡◌, ℕ, ◌+◌, ◌<◌, ◌≤◌, List, get_or, sym, subst, arith}
use Rattle.syntax.specs.Tree.{WordPart, literal, parameter, substitution, Word, no_parts, and_part, Words, no_words, and_word, Assignments, no_assignments, assign, Redirects, no_redirects, redirect, Command, simple, group, subshell, if, while, for, case, function, ElsePart, no_else, else, Arms, no_arms, arm, Pipeline, single, piped, AndOr, first, joined, CommandList, end, next}
use Rattle.code.specs.Layout.{PartAt, PartsAt, WordsAt, AssignmentsAt, RedirectsAt, CommandAt, ElseAt, ArmsAt, PipelineAt, AndOrAt, ListAt}
use Rattle.code.specs.Code.{PartCode, WordCode, WordsCode, AssignmentsCode, RedirectsCode, CommandCode, ElseCode, ArmsCode, PipelineCode, AndOrCode, ListCode}

module _ (t m : List ℕ) where
  -- the link at p leads to a, and so does whoever goes by the link's value
  by_link : (P : ℕ → Type 0) (p a : ℕ) → get_or m p 0 ≡ a → P a → P (get_or m p 0)
  by_link P p a e h = subst P (sym e) h

  mutual
    part_free : (q : WordPart) (a hi : ℕ) → PartAt t q a hi m → PartCode t m a q
    part_free (literal q x) a hi h = h
    part_free (parameter q x) a hi h = h
    part_free (substitution q l) a hi h = (h.0, list_free l (a + 4) hi (a + 2) h.1)

    parts_free : (w : Word) (lo hi p : ℕ) → PartsAt t w lo hi m p → WordCode t m (get_or m p 0) w
    parts_free no_parts lo hi p h = h
    parts_free (and_part q w) lo hi p h = by_link (λ z. WordCode t m z (and_part q w)) p h.0 h.2.0 (h.2.2, part_free q h.0 h.1 h.3, parts_free w h.1 hi h.0 h.4)

    words_free : (w : Words) (lo hi p : ℕ) → WordsAt t w lo hi m p → WordsCode t m (get_or m p 0) w
    words_free no_words lo hi p h = h
    words_free (and_word q w) lo hi p h = by_link (λ z. WordsCode t m z (and_word q w)) p h.0 h.2.0 (h.2.2, parts_free q (h.0 + 2) h.1 (h.0 + 1) h.3, words_free w h.1 hi h.0 h.4)

    assignments_free : (w : Assignments) (lo hi p : ℕ) → AssignmentsAt t w lo hi m p → AssignmentsCode t m (get_or m p 0) w
    assignments_free no_assignments lo hi p h = h
    assignments_free (assign x q w) lo hi p h = by_link (λ z. AssignmentsCode t m z (assign x q w)) p h.0 h.2.0 (h.2.2, h.3, parts_free q (h.0 + 4) h.1 (h.0 + 3) h.4, assignments_free w h.1 hi h.0 h.5)

    redirects_free : (w : Redirects) (lo hi p : ℕ) → RedirectsAt t w lo hi m p → RedirectsCode t m (get_or m p 0) w
    redirects_free no_redirects lo hi p h = h
    redirects_free (redirect x q w) lo hi p h = by_link (λ z. RedirectsCode t m z (redirect x q w)) p h.0 h.2.0 (h.2.2, h.3, parts_free q (h.0 + 3) h.1 (h.0 + 2) h.4, redirects_free w h.1 hi h.0 h.5)

    command_free : (c : Command) (a hi : ℕ) → CommandAt t c a hi m → CommandCode t m a c
    command_free (simple ss ws ts) a hi h = (h.2, assignments_free ss (a + 5) h.0 (a + 2) h.6, words_free ws h.0 h.1 (a + 3) h.7, redirects_free ts h.1 hi (a + 4) h.8)
    command_free (group l ts) a hi h = (h.1, list_free l (a + 4) h.0 (a + 2) h.4, redirects_free ts h.0 hi (a + 3) h.5)
    command_free (subshell l ts) a hi h = (h.1, list_free l (a + 4) h.0 (a + 2) h.4, redirects_free ts h.0 hi (a + 3) h.5)
    command_free (if b c d ts) a hi h = (h.3, list_free b (a + 6) h.0 (a + 2) h.8, list_free c h.0 h.1 (a + 3) h.9, else_free d h.1 h.2 (a + 4) h.10, redirects_free ts h.2 hi (a + 5) h.11)
    command_free (while b c ts) a hi h = (h.2, list_free b (a + 5) h.0 (a + 2) h.6, list_free c h.0 h.1 (a + 3) h.7, redirects_free ts h.1 hi (a + 4) h.8)
    command_free (for x ws l ts) a hi h = (h.2, h.6, words_free ws (a + 7) h.0 (a + 4) h.7, list_free l h.0 h.1 (a + 5) h.8, redirects_free ts h.1 hi (a + 6) h.9)
    command_free (case w is ts) a hi h = (h.2, parts_free w (a + 5) h.0 (a + 2) h.6, arms_free is h.0 h.1 (a + 3) h.7, redirects_free ts h.1 hi (a + 4) h.8)
    command_free (function x l) a hi h = (h.0, h.2, list_free l (a + 5) hi (a + 4) h.3)

    else_free : (w : ElsePart) (lo hi p : ℕ) → ElseAt t w lo hi m p → ElseCode t m (get_or m p 0) w
    else_free no_else lo hi p h = h
    else_free (else l) lo hi p h = by_link (λ z. ElseCode t m z (else l)) p h.0 h.1.0 (h.1.2, list_free l (h.0 + 1) hi h.0 h.2)

    arms_free : (w : Arms) (lo hi p : ℕ) → ArmsAt t w lo hi m p → ArmsCode t m (get_or m p 0) w
    arms_free no_arms lo hi p h = h
    arms_free (arm w l is) lo hi p h = by_link (λ z. ArmsCode t m z (arm w l is)) p h.0 h.3.0 (h.3.2, parts_free w (h.0 + 3) h.2 (h.0 + 1) h.6, list_free l h.2 h.1 (h.0 + 2) h.7, arms_free is h.1 hi h.0 h.8)

    pipeline_free : (w : Pipeline) (lo hi p : ℕ) → PipelineAt t w lo hi m p → PipelineCode t m (get_or m p 0) w
    pipeline_free (single c) lo hi p h = by_link (λ z. PipelineCode t m z (single c)) p h.0 h.2.0 (h.2.2, command_free c h.0 h.1 h.3, h.4)
    pipeline_free (piped c q) lo hi p h = by_link (λ z. PipelineCode t m z (piped c q)) p h.0 h.2.0 (h.2.2, command_free c h.0 h.1 h.3, pipeline_free q h.1 hi h.0 h.4)

    and_or_free : (w : AndOr) (lo hi a : ℕ) → 0 < a → AndOrAt t w lo hi m a → AndOrCode t m a w
    and_or_free (first n q) lo hi a z h = (z, h.2, h.3, pipeline_free q (a + 4) hi (a + 3) h.4)
    and_or_free (joined c b n q) lo hi a z h = (z, by_link (λ z. AndOrCode t m z c) a h.0 h.3 (and_or_free c lo a h.0 h.4 h.7), h.5, h.6, pipeline_free q (a + 4) hi (a + 3) h.8)

    pub list_free : (w : CommandList) (lo hi p : ℕ) → ListAt t w lo hi m p → ListCode t m (get_or m p 0) w
    list_free end lo hi p h = h
    list_free (next c b l) lo hi p h = by_link (λ z. ListCode t m z (next c b l)) p h.0 h.3.0 (h.3.2, h.4, by_link (λ z. AndOrCode t m z c) (h.0 + 2) h.2 h.5 (and_or_free c (h.0 + 3) h.1 h.2 (omega (arith, and_or_at c (h.0 + 3) h.1 h.2 h.6)) h.6), list_free l h.1 hi h.0 h.7)

    and_or_at : (w : AndOr) (lo hi a : ℕ) → AndOrAt t w lo hi m a → lo ≤ a
    and_or_at (first n q) lo hi a h = h.0
    and_or_at (joined c b n q) lo hi a h = h.1
