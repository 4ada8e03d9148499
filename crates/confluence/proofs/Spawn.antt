-- The system right after a pipeline is spawned: its processes, handles and pipes.
use mathlib.Core.Path.{◌∙◌, ◌≡◌, ap, refl, subst, sym}
use mathlib.Core.Bool.{Bool, false, true}
use mathlib.Core.List.{[], ◌++◌, ◌∷◌, List}
use mathlib.Core.Option.{none, some}
use Prim.Native.Nat.{◌+◌, ◌<◌, suc, zero, ℕ}
use native.Mathlib.Omega.{arith}
use lib.ListN.{length}
use lib.Dec.{eqb}
use Rattle.syntax.specs.Base.{nth, pick}
use Rattle.syntax.specs.Tree.{Command, piped, Pipeline, single}
use Rattle.meaning.specs.System.{at_command, find_process, Handle, pipe_read, pipe_write, Process, System}
use Rattle.meaning.specs.Step.{new_pipe, pipeline_length, spawn, spawn_pipeline}
use Rattle.meaning.proofs.Core.{no_some}
use Rattle.confluence.proofs.Basics.{app_assoc, eqb_no, eqb_self, length_snoc, length_two, nth_lt, nth_new, nth_old, nth_one, nth_two}
use Rattle.confluence.proofs.Restrictions.{OkCommand, OkMembers}
use Rattle.confluence.proofs.Processes.{Unique}
use Rattle.confluence.proofs.Path.{member_command}

abbrev pub member : Process → Command → ℕ → ℕ → ℕ → Process
member w c n i o = record {
  pid = n;
  control = at_command c;
  frames = [];
  stdin = i;
  stdout = o;
  variables = w.variables;
  functions = w.functions;
  arguments = w.arguments;
  status = w.status;
  jobs = [];
}

abbrev pub members : Process → Pipeline → ℕ → ℕ → ℕ → List Process
members w (single c) n l i = member w c n i w.stdout ∷ []
members w (piped c p) n l i = member w c n i (suc l) ∷ members w p (suc n) (suc (suc l)) l

abbrev pub new_handles : Pipeline → ℕ → List Handle
new_handles (single c) q = []
new_handles (piped c p) q = pipe_read q ∷ pipe_write q ∷ new_handles p (suc q)

abbrev pub new_pipes : Pipeline → List (List ℕ)
new_pipes (single c) = []
new_pipes (piped c p) = [] ∷ new_pipes p

abbrev pub stdin_at : Pipeline → ℕ → ℕ → ℕ → ℕ
stdin_at p l i zero = i
stdin_at (single c) l i (suc j) = 0
stdin_at (piped c p) l i (suc j) = stdin_at p (suc (suc l)) l j

abbrev pub stdout_at : ℕ → Pipeline → ℕ → ℕ → ℕ
stdout_at o (single c) l j = o
stdout_at o (piped c p) l zero = suc l
stdout_at o (piped c p) l (suc j) = stdout_at o p (suc (suc l)) j

abbrev pub input_at : Handle → Pipeline → ℕ → ℕ → Handle
input_at o p q zero = o
input_at o (single c) q (suc j) = o
input_at o (piped c p) q (suc j) = input_at (pipe_read q) p (suc q) j

abbrev pub output_at : Handle → Pipeline → ℕ → ℕ → Handle
output_at e (single c) q j = e
output_at e (piped c p) q zero = pipe_write q
output_at e (piped c p) q (suc j) = output_at e p (suc q) j

pub spawned_processes : (s : System) (w : Process) (p : Pipeline) (i : ℕ) → (spawn_pipeline s w p i).processes ≡ s.processes ++ members w p s.next_pid (length s.handles) i
spawned_processes s w (single c) i = refl
spawned_processes s w (piped c p) i = spawned_processes (spawn (new_pipe s) w (at_command c) i (suc (length s.handles))) w p (length s.handles)
    ∙ app_assoc s.processes _ _ ∙ ap (λ l. s.processes ++ (member w c s.next_pid i (suc (length s.handles)) ∷ members w p
    (suc s.next_pid) l (length s.handles))) (length_two s.handles _ _)

pub spawned_handles : (s : System) (w : Process) (p : Pipeline) (i : ℕ) → (spawn_pipeline s w p i).handles ≡ s.handles ++ new_handles p (length s.pipes)
spawned_handles s w (single c) i = sym (app_nil s.handles)
  where
    app_nil : {A : Type 0} (xs : List A) → xs ++ [] ≡ xs
    app_nil [] = refl
    app_nil (x ∷ xs) = ap (λ z. x ∷ z) (app_nil xs)
spawned_handles s w (piped c p) i = spawned_handles (spawn (new_pipe s) w (at_command c) i (suc (length s.handles))) w p (length s.handles)
    ∙ app_assoc s.handles _ _ ∙ ap (λ l. s.handles ++ (pipe_read (length s.pipes) ∷ pipe_write (length s.pipes) ∷ new_handles p l))
    (length_snoc s.pipes [])

pub spawned_pipes : (s : System) (w : Process) (p : Pipeline) (i : ℕ) → (spawn_pipeline s w p i).pipes ≡ s.pipes ++ new_pipes p
spawned_pipes s w (single c) i = sym (app_nil s.pipes)
  where
    app_nil : {A : Type 0} (xs : List A) → xs ++ [] ≡ xs
    app_nil [] = refl
    app_nil (x ∷ xs) = ap (λ z. x ∷ z) (app_nil xs)
spawned_pipes s w (piped c p) i = spawned_pipes (spawn (new_pipe s) w (at_command c) i (suc (length s.handles))) w p (length s.handles) ∙ app_assoc s.pipes _ _

pub record Rest (s t : System) (n : ℕ) : Type 0 where
  pub next1 : t.next_pid ≡ s.next_pid + n
  pub files : t.files ≡ s.files
  pub input : t.input ≡ s.input
  pub paper : t.paper ≡ s.paper
  pub exited : t.exited ≡ s.exited

pub spawned_rest : (s : System) (w : Process) (p : Pipeline) (i : ℕ) → Rest s (spawn_pipeline s w p i) (pipeline_length p)
spawned_rest s w (single c) i = record { next1 = omega arith; files = refl; input = refl; paper = refl; exited = refl }
spawned_rest s w (piped c p) i = let r = spawned_rest (spawn (new_pipe s) w (at_command c) i (suc (length s.handles))) w p
    (length s.handles) in record { next1 = r.next1 ∙ omega arith; files = r.files; input = r.input; paper = r.paper; exited = r.exited }

pub find_members : (w : Process) (p : Pipeline) (n l i j q : ℕ) → j < pipeline_length p → q ≡ n + j
    → find_process (members w p n l i) q ≡ some (member w (member_command p j) q (stdin_at p l i j) (stdout_at w.stdout p l j))
find_members w (single c) n l i zero q h e = let f : n ≡ q = omega (arith, e) in subst
    (λ z. pick (eqb n z) (some (member w c n i w.stdout)) none ≡ some (member w c z i w.stdout)) f
    (ap (λ b. pick b (some (member w c n i w.stdout)) none) (eqb_self n))
find_members w (single c) n l i (suc j) q h e = absurd (omega arith)
find_members w (piped c p) n l i zero q h e = let f : n ≡ q = omega (arith, e) in subst
    (λ z. pick (eqb n z) (some (member w c n i (suc l))) (find_process (members w p (suc n) (suc (suc l)) l) z) ≡ some (member w c z i (suc l))) f
    (ap (λ b. pick b (some (member w c n i (suc l))) (find_process (members w p (suc n) (suc (suc l)) l) n)) (eqb_self n))
find_members w (piped c p) n l i (suc j) q h e = ap (λ b. pick b (some (member w c n i (suc l)))
    (find_process (members w p (suc n) (suc (suc l)) l) q)) (eqb_no n q (λ f. absurd (omega (arith, e, f))))
    ∙ find_members w p (suc n) (suc (suc l)) l j q (omega arith) (omega (arith, e))

pub known_members : (w v : Process) (p : Pipeline) (n l i q : ℕ) → find_process (members w p n l i) q ≡ some v → (j : ℕ) × (j < pipeline_length p) × (q ≡ n + j)
known_members w v (single c) n l i q e = by (eqb n q) refl e
  where
    by : (z : Bool) → eqb n q ≡ z → pick z (some (member w c n i w.stdout)) none ≡ some v → (j : ℕ) × (j < 1) × (q ≡ n + j)
    by true f g = (0, omega arith, let h : n ≡ q = grind arith in omega (arith, h))
    by false f g = absurd (no_some g)
known_members w v (piped c p) n l i q e = by (eqb n q) refl e (known_members w v p (suc n) (suc (suc l)) l q)
  where
    by : (z : Bool) → eqb n q ≡ z → pick z (some (member w c n i (suc l))) (find_process (members w p (suc n) (suc (suc l)) l) q) ≡ some v
        → (find_process (members w p (suc n) (suc (suc l)) l) q ≡ some v → (j : ℕ) × (j < pipeline_length p) × (q ≡ suc n + j))
        → (j : ℕ) × (j < suc (pipeline_length p)) × (q ≡ n + j)
    by true f g k = (0, omega arith, let h : n ≡ q = grind arith in omega (arith, h))
    by false f g k = let r = k g in (suc r.0, omega (arith, r.1), omega (arith, r.2))

pub none_members : (w : Process) (p : Pipeline) (n l i q : ℕ) → q < n → find_process (members w p n l i) q ≡ none
none_members w (single c) n l i q h = ap (λ b. pick b (some (member w c n i w.stdout)) none) (eqb_no n q (λ f. absurd (omega (arith, f))))
none_members w (piped c p) n l i q h = ap (λ b. pick b (some (member w c n i (suc l))) (find_process (members w p (suc n) (suc (suc l)) l) q))
    (eqb_no n q (λ f. absurd (omega (arith, f)))) ∙ none_members w p (suc n) (suc (suc l)) l q (omega arith)

pub unique_members : (w : Process) (p : Pipeline) (n l i : ℕ) → Unique (members w p n l i)
unique_members w (single c) n l i = (refl, tt)
unique_members w (piped c p) n l i = (none_members w p (suc n) (suc (suc l)) l n (omega arith), unique_members w p (suc n) (suc (suc l)) l)

pub stdin_open : (X : List Handle) (o : Handle) (p : Pipeline) (q l i j : ℕ) → length X ≡ l → nth X i ≡ some o → j < pipeline_length p
    → nth (X ++ new_handles p q) (stdin_at p l i j) ≡ some (input_at o p q j)
stdin_open X o p q l i zero e f h = nth_old X (new_handles p q) i (nth_lt X i o f) ∙ f
stdin_open X o (single c) q l i (suc j) e f h = absurd (omega arith)
stdin_open X o (piped c p) q l i (suc j) e f h = ap (λ z. nth z (stdin_at p (suc (suc l)) l j))
    (sym (app_assoc X (pipe_read q ∷ pipe_write q ∷ []) (new_handles p (suc q)))) ∙ stdin_open (X ++ (pipe_read q ∷ pipe_write q ∷ []))
    (pipe_read q) p (suc q) (suc (suc l)) l j (length_two X (pipe_read q) (pipe_write q)
    ∙ ap (λ z. suc (suc z)) e) (subst (λ z. nth (X ++ (pipe_read q ∷ pipe_write q ∷ [])) z ≡ some (pipe_read q)) e
    (nth_one X (pipe_read q) (pipe_write q))) (omega arith)

pub stdout_open : (X : List Handle) (oo : Handle) (p : Pipeline) (q l o j : ℕ) → length X ≡ l → nth X o ≡ some oo → j < pipeline_length p
    → nth (X ++ new_handles p q) (stdout_at o p l j) ≡ some (output_at oo p q j)
stdout_open X oo (single c) q l o j e f h = nth_old X [] o (nth_lt X o oo f) ∙ f
stdout_open X oo (piped c p) q l o zero e f h = ap (λ z. nth z (suc l)) (sym (app_assoc X (pipe_read q ∷ pipe_write q ∷ []) (new_handles p (suc q))))
    ∙ nth_old (X ++ (pipe_read q ∷ pipe_write q ∷ [])) (new_handles p (suc q)) (suc l) (omega (arith, length_two X (pipe_read q) (pipe_write q), e))
    ∙ subst (λ z. nth (X ++ (pipe_read q ∷ pipe_write q ∷ [])) (suc z) ≡ some (pipe_write q)) e (nth_two X (pipe_read q) (pipe_write q))
stdout_open X oo (piped c p) q l o (suc j) e f h = ap (λ z. nth z (stdout_at o p (suc (suc l)) j))
    (sym (app_assoc X (pipe_read q ∷ pipe_write q ∷ []) (new_handles p (suc q)))) ∙ stdout_open (X ++ (pipe_read q ∷ pipe_write q ∷ [])) oo p (suc q)
    (suc (suc l)) o j (length_two X (pipe_read q) (pipe_write q) ∙ ap (λ z. suc (suc z)) e) (nth_old X _ o (nth_lt X o oo f) ∙ f) (omega arith)

pub new_pipe_empty : (Y : List (List ℕ)) (p : Pipeline) (j l : ℕ) → length Y ≡ l → suc j < pipeline_length p → nth (Y ++ new_pipes p) (l + j) ≡ some []
new_pipe_empty Y (single c) j l e h = absurd (omega arith)
new_pipe_empty Y (piped c p) zero l e h = ap (λ z. nth z (l + 0)) (sym (app_assoc Y ([] ∷ []) (new_pipes p)))
    ∙ nth_old (Y ++ ([] ∷ [])) (new_pipes p) (l + 0) (omega (arith, length_snoc Y [], e))
    ∙ subst (λ z. nth (Y ++ ([] ∷ [])) z ≡ some []) (omega (arith, e)) (nth_new Y [])
new_pipe_empty Y (piped c p) (suc j) l e h = ap (λ z. nth z (l + suc j)) (sym (app_assoc Y ([] ∷ []) (new_pipes p)))
    ∙ subst (λ z. nth ((Y ++ ([] ∷ [])) ++ new_pipes p) z ≡ some []) (omega arith) (new_pipe_empty (Y ++ ([] ∷ [])) p j (suc l) (length_snoc Y []
    ∙ ap (λ z. suc z) e) (omega arith))

pub input_of_next : (o : Handle) (p : Pipeline) (q j : ℕ) → suc j < pipeline_length p → input_at o p q (suc j) ≡ pipe_read (q + j)
input_of_next o (single c) q j h = absurd (omega arith)
input_of_next o (piped c p) q zero h = ap pipe_read (omega arith)
input_of_next o (piped c p) q (suc j) h = input_of_next (pipe_read q) p (suc q) j (omega arith) ∙ ap pipe_read (omega arith)

pub output_to_next : (oo : Handle) (p : Pipeline) (q j : ℕ) → suc j < pipeline_length p → output_at oo p q j ≡ pipe_write (q + j)
output_to_next oo (single c) q j h = absurd (omega arith)
output_to_next oo (piped c p) q zero h = ap pipe_write (omega arith)
output_to_next oo (piped c p) q (suc j) h = output_to_next oo p (suc q) j (omega arith) ∙ ap pipe_write (omega arith)

pub output_of_last : (oo : Handle) (p : Pipeline) (q j : ℕ) → suc j ≡ pipeline_length p → output_at oo p q j ≡ oo
output_of_last oo (single c) q j h = refl
output_of_last oo (piped c p) q zero h = absurd (zero_many p (omega (arith, h)))
  where
    zero_many : (p : Pipeline) → pipeline_length p ≡ 0 → ⊥
    zero_many (single c) e = absurd (omega (arith, e))
    zero_many (piped c p) e = absurd (omega (arith, e))
output_of_last oo (piped c p) q (suc j) h = output_of_last oo p (suc q) j (omega (arith, h))

pub member_ok : (p : Pipeline) (j : ℕ) → OkMembers p → OkCommand true (member_command p j)
member_ok (single c) j h = h
member_ok (piped c p) zero h = h.0
member_ok (piped c p) (suc j) h = member_ok p j h.1
