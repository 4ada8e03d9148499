-- The root is the innermost process that is not capturing. Its steps are local steps, whatever captures below it.
use mathlib.Core.Path.{◌∙◌, ◌≡◌, ap, refl, subst, sym}
use mathlib.Core.Logic.{◌⊎◌, inl, inr}
use mathlib.Core.Bool.{Bool, false}
use mathlib.Core.List.{[], ◌++◌, ◌∷◌, List}
use mathlib.Core.Option.{none, some}
use Prim.Native.Nat.{◌<◌, ◌≤◌, suc, zero, ℕ}
use native.Mathlib.Omega.{arith}
use lib.ListN.{length}
use lib.Dec.{eqb}
use Rattle.syntax.specs.Base.{nth, pick}
use Rattle.syntax.specs.Tree.{and_part, Command, literal, no_parts, parameter, piped, Pipeline, single, substitution, Word}
use Rattle.meaning.specs.System.{at_pipeline, Control, exit_status, Expansion, File, file_append, file_read, find_process, Handle, held, here_text, host_input, host_paper, pipe_read, pipe_write, Process, Purpose, reads_pipe, replace, System, without}
use Rattle.meaning.specs.Step.{continues, exits, settle, step, StepResult}
use Rattle.meaning.proofs.Own.{found_pid, inside, Keeps, Keeps?, other_left, other_there, step_keeps}
use Rattle.meaning.proofs.Core.{no_some}
use Rattle.confluence.proofs.Basics.{app_nil, eqb_no, eqb_self, nth_lt}
use Rattle.confluence.proofs.Chain.{Event, finished, Fires, outputs}
use Rattle.confluence.proofs.Renaming.{l_and_or, l_builtin, l_capture, l_command, l_list, l_nil, l_pipeline, l_redirects, l_status, l_unwind, l_wait, l_words, LikeControl, NoSubstitution, Sequential}
use Rattle.confluence.proofs.Local.{Alike, Fixed, InputHandle, Local, local_step, OutputHandle, Table}
use Rattle.confluence.proofs.Simulation.{Effect, Grown, NotCapture, simulate, Simulated, Simulates, x_end, x_paper, x_pipe, x_read, x_silent}
use Rattle.confluence.proofs.Discipline.{Disciplined, NotPipeline, Stays, Stays?, step_disciplined}
use Rattle.confluence.proofs.Processes.{found_replace, Unique, unique_replace, unique_without, without_find}
use Rattle.confluence.proofs.Holding.{sequential}
use Rattle.confluence.proofs.Buffers.{effect_pipe, effect_rest, fixed_input, fixed_output, IsPipe, other_paper, other_pipe, pipe_number, same_handles, SameRest}
use Rattle.confluence.proofs.Sinks.{Below, NotSink, on_paper, on_pipe, received, received_after, received_kept, Sink, SinkAlive, sink_alive_after, sink_fixed, sink_handle, sink_is_read, sink_output, sink_pipe, sink_there}
use Rattle.confluence.proofs.Path.{kind_of, kind_of_word, Leads, member_start, one_step, Path}
use Rattle.confluence.proofs.Spawn.{member}

pub two_handles : (b0 b1 a i : ℕ) → nth (b0 ∷ b1 ∷ []) a ≡ some i → ((a ≡ 0) × (i ≡ b0)) ⊎ ((a ≡ 1) × (i ≡ b1))
two_handles b0 b1 zero i e = inl (refl, sym (inside e))
two_handles b0 b1 (suc zero) i e = inr (refl, sym (inside e))
two_handles b0 b1 (suc (suc a)) i e = absurd (no_some e)

not_both : (o : Handle) → InputHandle o → OutputHandle o → ⊥
not_both (file_read x n) h k = h
not_both (file_append x) h k = h
not_both (pipe_read p) h k = k
not_both (pipe_write p) h k = h
not_both host_input h k = k
not_both host_paper h k = h
not_both (here_text bs) h k = h

-- a new member simulates its local process
pub member_simulates : (i o : Handle) (b0 b1 q : ℕ) (t : System) (w : Process) (y : Local) (c : Command) → InputHandle i → OutputHandle o
    → nth t.handles b0 ≡ some i → nth t.handles b1 ≡ some o → t.files ≡ y.system.files → y.process.variables ≡ w.variables
    → y.process.functions ≡ w.functions → y.process.arguments ≡ w.arguments → y.process.status ≡ w.status
    → Simulates i o (b0 ∷ b1 ∷ []) t (member w c q b0 b1) (member_start y c)
member_simulates i o b0 b1 q t w y c ki ko e f g h1 h2 h3 h4 = record {
  like = record {
    control = l_command;
    frames = l_nil;
    stdin = refl;
    stdout = refl;
    variables = h1;
    functions = h2;
    arguments = h3;
    status = h4;
    jobs = refl;
  };
  agrees = record {
    lengths = refl;
    within = λ a n r. wi a n (two_handles b0 b1 a n r);
    once = λ a b n r s. on a b n (two_handles b0 b1 a n r) (two_handles b0 b1 b n s);
    alike = λ a n r. al a n (two_handles b0 b1 a n r);
    files = g;
  };
}
  where
    wi : (a n : ℕ) → ((a ≡ 0) × (n ≡ b0)) ⊎ ((a ≡ 1) × (n ≡ b1)) → n < length t.handles
    wi a n (inl z) = omega (arith, nth_lt t.handles b0 i e, z.1)
    wi a n (inr z) = omega (arith, nth_lt t.handles b1 o f, z.1)

    on : (a b n : ℕ) → ((a ≡ 0) × (n ≡ b0)) ⊎ ((a ≡ 1) × (n ≡ b1)) → ((b ≡ 0) × (n ≡ b0)) ⊎ ((b ≡ 1) × (n ≡ b1)) → a ≡ b
    on a b n (inl z) (inl u) = z.0 ∙ sym u.0
    on a b n (inl z) (inr u) = absurd (not_both o (subst InputHandle (inside (sym e ∙ ap (λ m. nth t.handles m) (sym z.1 ∙ u.1) ∙ f)) ki) ko)
    on a b n (inr z) (inl u) = absurd (not_both o (subst InputHandle (inside (sym e ∙ ap (λ m. nth t.handles m) (sym u.1 ∙ z.1) ∙ f)) ki) ko)
    on a b n (inr z) (inr u) = z.0 ∙ sym u.0

    al : (a n : ℕ) → ((a ≡ 0) × (n ≡ b0)) ⊎ ((a ≡ 1) × (n ≡ b1)) → Alike i o (nth t.handles n) (nth (host_input ∷ host_paper ∷ []) a)
    al a n (inl z) = subst (λ m. Alike i o (nth t.handles n) (nth (host_input ∷ host_paper ∷ []) m)) (sym z.0)
        (subst (λ p. Alike i o p (some host_input)) (sym (ap (λ m. nth t.handles m) z.1 ∙ e)) refl)
    al a n (inr z) = subst (λ m. Alike i o (nth t.handles n) (nth (host_input ∷ host_paper ∷ []) m)) (sym z.0)
        (subst (λ p. Alike i o p (some host_paper)) (sym (ap (λ m. nth t.handles m) z.1 ∙ f)) refl)

pub fixed_table : (i o : Handle) (b0 b1 : ℕ) (t : System) → InputHandle i → OutputHandle o → nth t.handles b0 ≡ some i
    → nth t.handles b1 ≡ some o → (a n : ℕ) → nth (b0 ∷ b1 ∷ []) a ≡ some n → Fixed (nth t.handles n)
fixed_table i o b0 b1 t ki ko e f a n r = by (two_handles b0 b1 a n r)
  where
    by : ((a ≡ 0) × (n ≡ b0)) ⊎ ((a ≡ 1) × (n ≡ b1)) → Fixed (nth t.handles n)
    by (inl z) = subst Fixed (sym (ap (λ m. nth t.handles m) z.1 ∙ e)) (fixed_input i ki)
    by (inr z) = subst Fixed (sym (ap (λ m. nth t.handles m) z.1 ∙ f)) (fixed_output o ko)

-- the root: its number r, its sink k, its output's handle b1
pub record Active (r : ℕ) (k : Sink) (b1 : ℕ) (s : System) (y : Local) : Type 0 where
  pub process : Process
  pub found : find_process s.processes r ≡ some process
  pub above : (q : ℕ) → r < q → find_process s.processes q ≡ none
  pub once : Unique s.processes
  pub disciplined : Disciplined 0 b1 false process
  pub table : List ℕ
  pub simulates : Simulates host_input (sink_handle k) table s process y
  pub in0 : nth s.handles 0 ≡ some host_input
  pub out0 : nth s.handles b1 ≡ some (sink_handle k)
  pub input : s.input ≡ []
  pub fresh : (q : ℕ) → s.next_pid ≤ q → exit_status s.exited q ≡ none
  pub not_exited : exit_status s.exited r ≡ none
  pub exists : r < s.next_pid
  pub sink_low : Below k r
  pub sink_alive : SinkAlive k s

-- what a step of the root leaves as it is
pub record Untouched (r : ℕ) (k : Sink) (table : List ℕ) (s t : System) : Type 0 where
  pub input : t.input ≡ s.input
  pub next1 : t.next_pid ≡ s.next_pid
  pub longer : length s.handles ≤ length t.handles
  pub others : (i : ℕ) → i < length s.handles → ((a : ℕ) → nth table a ≡ some i → Fixed (nth s.handles i)) → nth t.handles i ≡ nth s.handles i
  pub finds : (q : ℕ) → (q ≡ r → ⊥) → find_process t.processes q ≡ find_process s.processes q
  pub statuses : (q : ℕ) → (q ≡ r → ⊥) → exit_status t.exited q ≡ exit_status s.exited q
  pub pipes : (q : ℕ) → NotSink k q → nth t.pipes q ≡ nth s.pipes q
  pub paper : (q : ℕ) → sink_handle k ≡ pipe_write q → t.paper ≡ s.paper

word_kind : (y : Local) (x : Expansion) (z : Purpose) (v : Word) → NoSubstitution v → kind_of_word y x z v ≡ one_step (local_step y)
word_kind y x z no_parts h = refl
word_kind y x z (and_part (literal q b) v) h = refl
word_kind y x z (and_part (parameter q n) v) h = refl
word_kind y x z (and_part (substitution q l) v) h = absurd h

pub like_kind : (ρ : Bool → ℕ → ℕ → Type 0) (y : Local) (c d : Control) → LikeControl ρ false c d → (b1 : ℕ) → NotPipeline 0 b1 c → kind_of y d ≡ one_step (local_step y)
like_kind ρ y c d l_list b1 h = refl
like_kind ρ y c d l_and_or b1 h = refl
like_kind ρ y c d (l_pipeline {p = single e}) b1 h = refl
like_kind ρ y c d (l_pipeline {p = piped e p}) b1 h = absurd h
like_kind ρ y c d l_command b1 h = refl
like_kind ρ y c d (l_words {x = x} {y = z}) b1 h = word_kind y x z x.parts h
like_kind ρ y c d l_redirects b1 h = refl
like_kind ρ y c d (l_builtin u) b1 h = refl
like_kind ρ y c d l_status b1 h = refl
like_kind ρ y c d l_unwind b1 h = refl
like_kind ρ y c d l_wait b1 h = refl
like_kind ρ y c d (l_capture g) b1 h = absurd h

pub pipeline_same : (ρ : Bool → ℕ → ℕ → Type 0) (m : Bool) (p : Pipeline) (d : Control) → LikeControl ρ false (at_pipeline m p) d → d ≡ at_pipeline m p
pipeline_same ρ m p d l_pipeline = refl

pub like_pipeline : (ρ : Bool → ℕ → ℕ → Type 0) (c d : Control) (m : Bool) (e : Command) (p : Pipeline) → c ≡ at_pipeline m (piped e p)
    → LikeControl ρ false c d → d ≡ at_pipeline m (piped e p)
like_pipeline ρ c d m e p q l = pipeline_same ρ m (piped e p) d (subst (λ z. LikeControl ρ false z d) q l)

abbrev pub After : ℕ → Sink → ℕ → List ℕ → System → Local → System → Type 0
After r k b1 table s y t = (z : Local) × (a2 : Active r k b1 t z) × Grown table s a2.table t
    × ((o : List ℕ) × (received k t ≡ received k s ++ o) × ((n : ℕ) (q : List ℕ) (m : ℕ) (fs : List File) → Path n z q m fs
    → Path (suc n) y (o ++ q) m fs))

abbrev pub Over : ℕ → Sink → (s : System) (y : Local) → System → Type 0
Over r k s y t = (n : ℕ) × (kind_of y y.process.control ≡ one_step (finished n)) × (t.files ≡ y.system.files)
    × (find_process t.processes r ≡ none) × (exit_status t.exited r ≡ some n) × (received k t ≡ received k s) × SinkAlive k t
    × Unique t.processes

path_step : (k : Sink) (s mid : System) (y z : Local) (e : Event) → kind_of y y.process.control ≡ one_step (local_step y)
    → Effect host_input (sink_handle k) s e mid → Fires Local local_step y e z → (n : ℕ) (r : List ℕ) (m : ℕ) (fs : List File) → Path n z r m fs
    → Path (suc n) y (outputs (e ∷ []) ++ r) m fs
path_step k s mid y z e ky x_silent st n r m fs p = subst (λ d. Leads (Path n) y d r m fs) (sym (ky ∙ ap one_step st)) p
path_step k s mid y z e ky (x_read g h) st n r m fs p = absurd (subst IsPipe (sym g) tt)
path_step k s mid y z e ky (x_end h) st n r m fs p = subst (λ d. Leads (Path n) y d r m fs) (sym (ky ∙ ap one_step st.1)) (subst (λ u. Path n u r m fs) (sym st.2) p)
path_step k s mid y z e ky (x_paper {b = b} h) st n r m fs p = subst (λ d. Leads (Path n) y d (b ∷ r) m fs) (sym (ky ∙ ap one_step st)) (r, refl, p)
path_step k s mid y z e ky (x_pipe {b = b} g h) st n r m fs p = subst (λ d. Leads (Path n) y d (b ∷ r) m fs) (sym (ky ∙ ap one_step st)) (r, refl, p)

input_not_pipe : (k : Sink) (p : ℕ) → host_input ≡ pipe_read p → NotSink k p
input_not_pipe k p e = absurd (subst IsPipe (sym e) tt)

effect_keeps : (k : Sink) (s mid : System) (e : Event) (q : ℕ) → Effect host_input (sink_handle k) s e mid → NotSink k q → nth mid.pipes q ≡ nth s.pipes q
effect_keeps k s mid e q x n = other_pipe host_input (sink_handle k) s mid e q x (λ p f d. subst IsPipe (sym f) tt) (λ p f d. no k n p f d)
  where
    no : (k : Sink) → NotSink k q → (p : ℕ) → sink_handle k ≡ pipe_write p → p ≡ q → ⊥
    no on_paper m p f d = subst IsPipe (sym f) tt
    no (on_pipe a b) m p f d = m (ap pipe_number f ∙ d)

pub root_step : (r : ℕ) (k : Sink) (b1 : ℕ) (s : System) (y : Local) (al : Active r k b1 s y) (a : StepResult)
    → NotPipeline 0 b1 al.process.control → step s al.process ≡ some a → (After r k b1 al.table s y (settle al.process a)
    ⊎ Over r k s y (settle al.process a)) × Untouched r k al.table s (settle al.process a)
root_step r k b1 s y al a np e = by a e (simulate host_input (sink_handle k) tt (sink_output k) al.table s al.process y al.simulates qt.0
    qt.1 al.input tt (sink_there k s al.sink_alive) a e) (subst (λ z. Stays? 0 b1 false s z) e
    (step_disciplined 0 b1 false s al.process np tt al.disciplined)) (subst (λ z. Keeps? s al.process z) e
    (step_keeps s al.process al.process.control))
  where
    qt : Sequential al.process.control × NotCapture al.process.control
    qt = sequential 0 b1 false al.process.control al.process.frames al.process.stdin al.process.stdout np al.disciplined.place

    ky : kind_of y y.process.control ≡ one_step (local_step y)
    ky = like_kind (Table al.table) y al.process.control y.process.control al.simulates.like.control b1 np

    wp : al.process.pid ≡ r
    wp = found_pid s.processes r al.process al.found

    by : (a : StepResult) → step s al.process ≡ some a → Simulated host_input (sink_handle k) al.table s y a → Stays 0 b1 false s a
        → Keeps s al.process a → (After r k b1 al.table s y (settle al.process a) ⊎ Over r k s y (settle al.process a))
        × Untouched r k al.table s (settle al.process a)
    by (continues v u) e2 mv st ks = (
      inl (
        mv.target,
        record {
          process = v;
          found = fnd;
          above = λ q h. o1.finds q (λ z. absurd (omega (arith, z, h))) ∙ al.above q h;
          once = unique_replace u.processes al.process.pid v ks.0 (subst Unique (sym us) al.once);
          disciplined = st.0;
          table = mv.table';
          simulates = same_handles host_input (sink_handle k) mv.table' u T v mv.target refl refl mv.simulates;
          in0 = keep 0 host_input al.in0 tt;
          out0 = keep b1 (sink_handle k) al.out0 (sink_fixed k);
          input = mv.preserves.input ∙ rs.input ∙ al.input;
          fresh = λ q h. gn q ∙ al.fresh q (omega (arith, h, mv.preserves.next1, rs.next1));
          not_exited = gn r ∙ al.not_exited;
          exists = omega (arith, al.exists, mv.preserves.next1, rs.next1);
          sink_low = al.sink_low;
          sink_alive = sk;
        },
        mv.grown,
        (
          outputs (mv.event ∷ []),
          out,
          path_step k s mv.mid y mv.target mv.event ky mv.effect
              mv.fires,
        ),
      ),
      o1,
    )
      where
        T : System
        T = settle al.process (continues v u)

        rs : SameRest s mv.mid
        rs = effect_rest host_input (sink_handle k) s mv.mid mv.event mv.effect

        us : u.processes ≡ s.processes
        us = mv.preserves.processes ∙ rs.processes

        fnd : find_process (replace u.processes al.process.pid v) r ≡ some v
        fnd = subst (λ q. find_process (replace u.processes al.process.pid v) q ≡ some v) wp
            (found_replace u.processes al.process.pid al.process v (subst (λ z. find_process z al.process.pid ≡ some al.process)
            (sym us) (subst (λ q. find_process s.processes q ≡ some al.process) (sym wp) al.found)) ks.0)

        gn : (q : ℕ) → exit_status u.exited q ≡ exit_status s.exited q
        gn q = ap (λ z. exit_status z q) (mv.preserves.exited ∙ rs.exited)

        oth : (i : ℕ) → i < length s.handles → ((a : ℕ) → nth al.table a ≡ some i → Fixed (nth s.handles i)) → nth u.handles i ≡ nth s.handles i
        oth i l g = mv.preserves.others i (omega (arith, ap length rs.handles))
            (λ a q. subst (λ os. Fixed (nth os i)) (sym rs.handles) (g a q)) ∙ ap (λ os. nth os i) rs.handles

        keep : (i : ℕ) (o : Handle) → nth s.handles i ≡ some o → Fixed (some o) → nth u.handles i ≡ some o
        keep i o f fx = oth i (nth_lt s.handles i o f) (λ a q. subst Fixed (sym f) fx) ∙ f

        o1 : Untouched r k al.table s T
        o1 = record {
          input = mv.preserves.input ∙ rs.input;
          next1 = mv.preserves.next1 ∙ rs.next1;
          longer = omega (arith, mv.preserves.longer, ap length rs.handles);
          others = oth;
          finds = λ q n. other_there u.processes al.process.pid q v (λ z. n (z ∙ wp)) ks.0 ∙ ap (λ z. find_process z q) us;
          statuses = λ q n. gn q;
          pipes = λ q n. ap (λ ps. nth ps q) mv.preserves.pipes
              ∙ effect_keeps k s mv.mid mv.event q mv.effect n;
          paper = λ q f. mv.preserves.paper
              ∙ other_paper host_input (sink_handle k) s mv.mid mv.event q mv.effect f;
        }

        fn2 : (q : ℕ) → q < r → find_process T.processes q ≡ find_process s.processes q
        fn2 q l = o1.finds q (λ z. absurd (omega (arith, z, l)))

        sk : SinkAlive k T
        sk = sink_alive_after k r s T al.sink_low fn2 (λ i p f. keep i (pipe_read p) f tt)
            (λ p q z. let c = effect_pipe host_input (sink_handle k) s mv.mid mv.event p mv.effect (sink_pipe k s p q z al.sink_alive) in
            (c.0, ap (λ ps. nth ps p) mv.preserves.pipes ∙ c.1)) al.sink_alive

        out : received k T ≡ received k s ++ outputs (mv.event ∷ [])
        out = received_kept k mv.mid T r al.sink_low (λ q l. fn2 q l ∙ ap (λ ws. find_process ws q) (sym rs.processes))
            mv.preserves.paper (λ p q z. ap (λ ps. nth ps p) mv.preserves.pipes)
            ∙ received_after k host_input s mv.mid mv.event [] (received k s) mv.effect (input_not_pipe k) (sym (app_nil (received k s)))
    by (exits n u) e2 (inl d) st ks = (
      inr (
        n,
        ky ∙ ap one_step d.0,
        fl,
        subst (λ q. find_process
            (without u.processes al.process.pid) q ≡ none) wp (without_find u.processes al.process.pid (subst Unique (sym us) al.once)),
        subst (λ z. pick (eqb al.process.pid z) (some n) (exit_status u.exited z) ≡ some n) wp
            (ap (λ z. pick z (some n) (exit_status u.exited al.process.pid)) (eqb_self al.process.pid)),
        received_kept k s T r al.sink_low fn2 d.1.paper (λ p q z. ap (λ ps. nth ps p) d.1.pipes),
        sk,
        unique_without u.processes al.process.pid (subst Unique (sym us) al.once),
      ),
      o1,
    )
      where
        T : System
        T = settle al.process (exits n u)

        us : u.processes ≡ s.processes
        us = d.1.processes

        fl : u.files ≡ y.system.files
        fl = st ∙ al.simulates.agrees.files

        o1 : Untouched r k al.table s T
        o1 = record {
          input = d.1.input;
          next1 = d.1.next1;
          longer = d.1.longer;
          others = d.1.others;
          finds = λ q m. other_left u.processes al.process.pid q (λ z. m (z ∙ wp)) ∙ ap (λ z. find_process z q) us;
          statuses = λ q m. ap (λ z. pick z (some n) (exit_status u.exited q)) (eqb_no al.process.pid q (λ z. m (sym z ∙ wp)))
              ∙ ap (λ z. exit_status z q) d.1.exited;
          pipes = λ q m. ap (λ ps. nth ps q) d.1.pipes;
          paper = λ q f. d.1.paper;
        }

        fn2 : (q : ℕ) → q < r → find_process T.processes q ≡ find_process s.processes q
        fn2 q l = o1.finds q (λ z. absurd (omega (arith, z, l)))

        sk : SinkAlive k T
        sk = sink_alive_after k r s T al.sink_low fn2 (λ i p f. d.1.others i (nth_lt s.handles i (pipe_read p) f)
            (λ a q. subst Fixed (sym f) tt) ∙ f) (λ p q z. let c = sink_pipe k s p q z al.sink_alive in (
              c.0,
              ap (λ ps. nth ps p) d.1.pipes
                  ∙ c.1,
            )) al.sink_alive
    by (exits n u) e2 (inr d) st ks = absurd (no k al.sink_alive d.2.1)
      where
        no : (k : Sink) → SinkAlive k s → sink_handle k ≡ pipe_write d.2.0 → ⊥
        no on_paper o e = subst IsPipe (sym e) tt
        no (on_pipe p m) o e = subst (λ z. Fixed (pick z none (some (here_text [])))) (sym (sink_is_read p m s o)
            ∙ ap (λ z. held s.handles (reads_pipe z) s.processes) (ap pipe_number e) ∙ d.2.2) tt
