-- Code stays what it is while its words do.
use Rattle.std.proofs.Common.{◌≡◌, ℕ, ◌+◌, ◌<◌, ◌≤◌, List, get_or, ◌∙◌, arith}
use Rattle.syntax.specs.Tree.{WordPart, literal, parameter, substitution, Word, no_parts, and_part, Words, no_words, and_word, Assignments, no_assignments, assign, Redirects, no_redirects, redirect, Command, simple, group, subshell, if, while, for, case, function, ElsePart, no_else, else, Arms, no_arms, arm, Pipeline, single, piped, AndOr, first, joined, CommandList, end, next}
use Rattle.code.specs.Layout.{BytesAt, PartAt, PartsAt, WordsAt, AssignmentsAt, RedirectsAt, CommandAt, ElseAt, ArmsAt, PipelineAt, AndOrAt, ListAt}

abbrev pub Same : List ℕ → List ℕ → ℕ → ℕ → Type 0
Same m v lo hi = (k : ℕ) → lo ≤ k → k < hi → get_or v k 0 ≡ get_or m k 0

module _ (t m v : List ℕ) where
  bytes : (s : List ℕ) (a b : ℕ) → get_or v a 0 ≡ get_or m a 0 → get_or v b 0 ≡ get_or m b 0 → BytesAt t s m a b → BytesAt t s v a b
  bytes s a b e f h = rw (e, f) h

  mutual
    pub part_frame : (q : WordPart) (a hi : ℕ) → a + 4 ≤ hi → Same m v (a + 1) hi → PartAt t q a hi m → PartAt t q a hi v
    part_frame (literal q x) a hi z s h = (s (a + 1) (omega arith) (omega arith) ∙ h.0, bytes x (a + 2) (a + 3) (s (a + 2) (omega arith) (omega arith)) (s (a + 3) (omega arith) (omega arith)) h.1)
    part_frame (parameter q x) a hi z s h = (s (a + 1) (omega arith) (omega arith) ∙ h.0, bytes x (a + 2) (a + 3) (s (a + 2) (omega arith) (omega arith)) (s (a + 3) (omega arith) (omega arith)) h.1)
    part_frame (substitution q l) a hi z s h = (s (a + 1) (omega arith) (omega arith) ∙ h.0, list_frame l (a + 4) (hi) (a + 2) (λ k i j. s k (omega arith) (omega arith)) (s (a + 2) (omega arith) (omega arith)) h.1)

    pub parts_frame : (w : Word) (lo hi p : ℕ) → Same m v lo hi → get_or v p 0 ≡ get_or m p 0 → PartsAt t w lo hi m p → PartsAt t w lo hi v p
    parts_frame no_parts lo hi p s e h = e ∙ h
    parts_frame (and_part q w) lo hi p s e h = (h.0, h.1, (e ∙ h.2.0, h.2.1, h.2.2, h.2.3, h.2.4), part_frame q h.0 h.1 (omega arith) (λ k i j. s k (omega arith) (omega arith)) h.3, parts_frame w h.1 (hi) h.0 (λ k i j. s k (omega arith) (omega arith)) (s h.0 (omega arith) (omega arith)) h.4)

    pub words_frame : (w : Words) (lo hi p : ℕ) → Same m v lo hi → get_or v p 0 ≡ get_or m p 0 → WordsAt t w lo hi m p → WordsAt t w lo hi v p
    words_frame no_words lo hi p s e h = e ∙ h
    words_frame (and_word q w) lo hi p s e h = (h.0, h.1, (e ∙ h.2.0, h.2.1, h.2.2, h.2.3, h.2.4), parts_frame q (h.0 + 2) h.1 (h.0 + 1) (λ k i j. s k (omega arith) (omega arith)) (s (h.0 + 1) (omega arith) (omega arith)) h.3, words_frame w h.1 (hi) h.0 (λ k i j. s k (omega arith) (omega arith)) (s h.0 (omega arith) (omega arith)) h.4)

    pub assignments_frame : (w : Assignments) (lo hi p : ℕ) → Same m v lo hi → get_or v p 0 ≡ get_or m p 0 → AssignmentsAt t w lo hi m p → AssignmentsAt t w lo hi v p
    assignments_frame no_assignments lo hi p s e h = e ∙ h
    assignments_frame (assign x q w) lo hi p s e h = (h.0, h.1, (e ∙ h.2.0, h.2.1, h.2.2, h.2.3, h.2.4), bytes x (h.0 + 1) (h.0 + 2) (s (h.0 + 1) (omega arith) (omega arith)) (s (h.0 + 2) (omega arith) (omega arith)) h.3, parts_frame q (h.0 + 4) h.1 (h.0 + 3) (λ k i j. s k (omega arith) (omega arith)) (s (h.0 + 3) (omega arith) (omega arith)) h.4, assignments_frame w h.1 (hi) h.0 (λ k i j. s k (omega arith) (omega arith)) (s h.0 (omega arith) (omega arith)) h.5)

    pub redirects_frame : (w : Redirects) (lo hi p : ℕ) → Same m v lo hi → get_or v p 0 ≡ get_or m p 0 → RedirectsAt t w lo hi m p → RedirectsAt t w lo hi v p
    redirects_frame no_redirects lo hi p s e h = e ∙ h
    redirects_frame (redirect x q w) lo hi p s e h = (h.0, h.1, (e ∙ h.2.0, h.2.1, h.2.2, h.2.3, h.2.4), s (h.0 + 1) (omega arith) (omega arith) ∙ h.3, parts_frame q (h.0 + 3) h.1 (h.0 + 2) (λ k i j. s k (omega arith) (omega arith)) (s (h.0 + 2) (omega arith) (omega arith)) h.4, redirects_frame w h.1 (hi) h.0 (λ k i j. s k (omega arith) (omega arith)) (s h.0 (omega arith) (omega arith)) h.5)

    pub command_frame : (c : Command) (a hi : ℕ) → a + 2 ≤ hi → Same m v (a + 1) hi → CommandAt t c a hi m → CommandAt t c a hi v
    command_frame (simple ss ws ts) a hi z s h = (h.0, h.1, s (a + 1) (omega arith) (omega arith) ∙ h.2, h.3, h.4, h.5, assignments_frame ss (a + 5) h.0 (a + 2) (λ k i j. s k (omega arith) (omega arith)) (s (a + 2) (omega arith) (omega arith)) h.6, words_frame ws h.0 h.1 (a + 3) (λ k i j. s k (omega arith) (omega arith)) (s (a + 3) (omega arith) (omega arith)) h.7, redirects_frame ts h.1 (hi) (a + 4) (λ k i j. s k (omega arith) (omega arith)) (s (a + 4) (omega arith) (omega arith)) h.8)
    command_frame (group l ts) a hi z s h = (h.0, s (a + 1) (omega arith) (omega arith) ∙ h.1, h.2, h.3, list_frame l (a + 4) h.0 (a + 2) (λ k i j. s k (omega arith) (omega arith)) (s (a + 2) (omega arith) (omega arith)) h.4, redirects_frame ts h.0 (hi) (a + 3) (λ k i j. s k (omega arith) (omega arith)) (s (a + 3) (omega arith) (omega arith)) h.5)
    command_frame (subshell l ts) a hi z s h = (h.0, s (a + 1) (omega arith) (omega arith) ∙ h.1, h.2, h.3, list_frame l (a + 4) h.0 (a + 2) (λ k i j. s k (omega arith) (omega arith)) (s (a + 2) (omega arith) (omega arith)) h.4, redirects_frame ts h.0 (hi) (a + 3) (λ k i j. s k (omega arith) (omega arith)) (s (a + 3) (omega arith) (omega arith)) h.5)
    command_frame (if b c d ts) a hi z s h = (h.0, h.1, h.2, s (a + 1) (omega arith) (omega arith) ∙ h.3, h.4, h.5, h.6, h.7, list_frame b (a + 6) h.0 (a + 2) (λ k i j. s k (omega arith) (omega arith)) (s (a + 2) (omega arith) (omega arith)) h.8, list_frame c h.0 h.1 (a + 3) (λ k i j. s k (omega arith) (omega arith)) (s (a + 3) (omega arith) (omega arith)) h.9, else_frame d h.1 h.2 (a + 4) (λ k i j. s k (omega arith) (omega arith)) (s (a + 4) (omega arith) (omega arith)) h.10, redirects_frame ts h.2 (hi) (a + 5) (λ k i j. s k (omega arith) (omega arith)) (s (a + 5) (omega arith) (omega arith)) h.11)
    command_frame (while b c ts) a hi z s h = (h.0, h.1, s (a + 1) (omega arith) (omega arith) ∙ h.2, h.3, h.4, h.5, list_frame b (a + 5) h.0 (a + 2) (λ k i j. s k (omega arith) (omega arith)) (s (a + 2) (omega arith) (omega arith)) h.6, list_frame c h.0 h.1 (a + 3) (λ k i j. s k (omega arith) (omega arith)) (s (a + 3) (omega arith) (omega arith)) h.7, redirects_frame ts h.1 (hi) (a + 4) (λ k i j. s k (omega arith) (omega arith)) (s (a + 4) (omega arith) (omega arith)) h.8)
    command_frame (for x ws l ts) a hi z s h = (h.0, h.1, s (a + 1) (omega arith) (omega arith) ∙ h.2, h.3, h.4, h.5, bytes x (a + 2) (a + 3) (s (a + 2) (omega arith) (omega arith)) (s (a + 3) (omega arith) (omega arith)) h.6, words_frame ws (a + 7) h.0 (a + 4) (λ k i j. s k (omega arith) (omega arith)) (s (a + 4) (omega arith) (omega arith)) h.7, list_frame l h.0 h.1 (a + 5) (λ k i j. s k (omega arith) (omega arith)) (s (a + 5) (omega arith) (omega arith)) h.8, redirects_frame ts h.1 (hi) (a + 6) (λ k i j. s k (omega arith) (omega arith)) (s (a + 6) (omega arith) (omega arith)) h.9)
    command_frame (case w is ts) a hi z s h = (h.0, h.1, s (a + 1) (omega arith) (omega arith) ∙ h.2, h.3, h.4, h.5, parts_frame w (a + 5) h.0 (a + 2) (λ k i j. s k (omega arith) (omega arith)) (s (a + 2) (omega arith) (omega arith)) h.6, arms_frame is h.0 h.1 (a + 3) (λ k i j. s k (omega arith) (omega arith)) (s (a + 3) (omega arith) (omega arith)) h.7, redirects_frame ts h.1 (hi) (a + 4) (λ k i j. s k (omega arith) (omega arith)) (s (a + 4) (omega arith) (omega arith)) h.8)
    command_frame (function x l) a hi z s h = (s (a + 1) (omega arith) (omega arith) ∙ h.0, h.1, bytes x (a + 2) (a + 3) (s (a + 2) (omega arith) (omega arith)) (s (a + 3) (omega arith) (omega arith)) h.2, list_frame l (a + 5) (hi) (a + 4) (λ k i j. s k (omega arith) (omega arith)) (s (a + 4) (omega arith) (omega arith)) h.3)

    pub else_frame : (w : ElsePart) (lo hi p : ℕ) → Same m v lo hi → get_or v p 0 ≡ get_or m p 0 → ElseAt t w lo hi m p → ElseAt t w lo hi v p
    else_frame no_else lo hi p s e h = e ∙ h
    else_frame (else l) lo hi p s e h = (h.0, (e ∙ h.1.0, h.1.1, h.1.2, h.1.3, h.1.4), list_frame l (h.0 + 1) (hi) h.0 (λ k i j. s k (omega arith) (omega arith)) (s h.0 (omega arith) (omega arith)) h.2)

    pub arms_frame : (w : Arms) (lo hi p : ℕ) → Same m v lo hi → get_or v p 0 ≡ get_or m p 0 → ArmsAt t w lo hi m p → ArmsAt t w lo hi v p
    arms_frame no_arms lo hi p s e h = e ∙ h
    arms_frame (arm w l is) lo hi p s e h = (h.0, h.1, h.2, (e ∙ h.3.0, h.3.1, h.3.2, h.3.3, h.3.4), h.4, h.5, parts_frame w (h.0 + 3) h.2 (h.0 + 1) (λ k i j. s k (omega arith) (omega arith)) (s (h.0 + 1) (omega arith) (omega arith)) h.6, list_frame l h.2 h.1 (h.0 + 2) (λ k i j. s k (omega arith) (omega arith)) (s (h.0 + 2) (omega arith) (omega arith)) h.7, arms_frame is h.1 (hi) h.0 (λ k i j. s k (omega arith) (omega arith)) (s h.0 (omega arith) (omega arith)) h.8)

    pub pipeline_frame : (w : Pipeline) (lo hi p : ℕ) → Same m v lo hi → get_or v p 0 ≡ get_or m p 0 → PipelineAt t w lo hi m p → PipelineAt t w lo hi v p
    pipeline_frame (single c) lo hi p s e h = (h.0, h.1, (e ∙ h.2.0, h.2.1, h.2.2, h.2.3, h.2.4), command_frame c h.0 h.1 (omega arith) (λ k i j. s k (omega arith) (omega arith)) h.3, s h.0 (omega arith) (omega arith) ∙ h.4)
    pipeline_frame (piped c q) lo hi p s e h = (h.0, h.1, (e ∙ h.2.0, h.2.1, h.2.2, h.2.3, h.2.4), command_frame c h.0 h.1 (omega arith) (λ k i j. s k (omega arith) (omega arith)) h.3, pipeline_frame q h.1 hi h.0 (λ k i j. s k (omega arith) (omega arith)) (s h.0 (omega arith) (omega arith)) h.4)

    pub and_or_frame : (w : AndOr) (lo hi a : ℕ) → Same m v lo hi → AndOrAt t w lo hi m a → AndOrAt t w lo hi v a
    and_or_frame (first n q) lo hi a s h = (h.0, h.1, s (a) (omega arith) (omega arith) ∙ h.2, s (a + 2) (omega arith) (omega arith) ∙ h.3, pipeline_frame q (a + 4) hi (a + 3) (λ k i j. s k (omega arith) (omega arith)) (s (a + 3) (omega arith) (omega arith)) h.4)
    and_or_frame (joined c b n q) lo hi a s h = (h.0, h.1, h.2, s (a) (omega arith) (omega arith) ∙ h.3, h.4, s (a + 1) (omega arith) (omega arith) ∙ h.5, s (a + 2) (omega arith) (omega arith) ∙ h.6, and_or_frame c lo a h.0 (λ k i j. s k (omega arith) (omega arith)) h.7, pipeline_frame q (a + 4) hi (a + 3) (λ k i j. s k (omega arith) (omega arith)) (s (a + 3) (omega arith) (omega arith)) h.8)

    pub list_frame : (w : CommandList) (lo hi p : ℕ) → Same m v lo hi → get_or v p 0 ≡ get_or m p 0 → ListAt t w lo hi m p → ListAt t w lo hi v p
    list_frame end lo hi p s e h = e ∙ h
    list_frame (next c b l) lo hi p s e h = (h.0, h.1, h.2, (e ∙ h.3.0, h.3.1, h.3.2, h.3.3, h.3.4), s (h.0 + 1) (omega arith) (omega arith) ∙ h.4, s (h.0 + 2) (omega arith) (omega arith) ∙ h.5, and_or_frame c (h.0 + 3) h.1 h.2 (λ k i j. s k (omega arith) (omega arith)) h.6, list_frame l h.1 (hi) h.0 (λ k i j. s k (omega arith) (omega arith)) (s h.0 (omega arith) (omega arith)) h.7)
