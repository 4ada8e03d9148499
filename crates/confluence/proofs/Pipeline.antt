-- A pipeline at work: each member simulates a local process from the same start, whatever the others do, and what a member
-- reads is what the one before it writes. A move of a member keeps this. A member is ended by 141 only when the next one has
-- exited, so that nobody misses what it would have written.
use mathlib.Core.Path.{◌∙◌, ◌≡◌, ap, refl, subst, sym}
use mathlib.Core.Logic.{◌⊎◌, inl, inr}
use mathlib.Core.Bool.{Bool, false, true}
use mathlib.Core.List.{[], ◌++◌, ◌∷◌, List}
use mathlib.Core.Option.{none, Option, some}
use Prim.Native.Nat.{◌+◌, ◌<◌, ◌≤◌, suc, zero, ℕ}
use native.Mathlib.Omega.{arith}
use lib.ListN.{length}
use lib.Dec.{eqb}
use Rattle.syntax.specs.Base.{nth, on_some, opt, pick}
use Rattle.meaning.specs.System.{exit_status, file_append, file_read, find_process, Handle, handle_is, held, here_text, host_input, host_paper, pipe_read, pipe_write, Process, reads_pipe, replace, System, with_processes, without, writes_pipe}
use Rattle.meaning.specs.Step.{continues, exits, move, settle, step, StepResult}
use Rattle.meaning.proofs.Own.{found_pid, inside, Keeps, Keeps?, other_left, other_there, step_keeps}
use Rattle.meaning.proofs.Core.{no_some}
use Rattle.confluence.proofs.Basics.{eqb_self, equal_or_not, next_or_last, nth_lt, nth_snoc, or_left, or_right}
use Rattle.confluence.proofs.Chain.{Event, finished, inputs, outputs, Trace}
use Rattle.confluence.proofs.Renaming.{Sequential}
use Rattle.confluence.proofs.Local.{Alike, Fixed, InputHandle, Local, local_step, OutputHandle, Preserves, preserves_self}
use Rattle.confluence.proofs.Simulation.{Effect, Grown, InputThere, Moved, NotCapture, OutputThere, simulate, Simulated, Simulates}
use Rattle.confluence.proofs.Discipline.{Disciplined, not_pipeline, Stays, Stays?, step_disciplined, Stream}
use Rattle.confluence.proofs.Processes.{found_replace, Unique, unique_replace, unique_without, without_find}
use Rattle.confluence.proofs.Holding.{process_holds, sequential}
use Rattle.confluence.proofs.Buffers.{Buffered, buffered_exited, Contents, effect_pipe, effect_rest, first_input, fixed_input, fixed_output, IsPipe, other_paper, other_pipe, pipe_number, reader_contents, same_handles, SameRest, trace_snoc, writer_contents}
use Rattle.confluence.proofs.Sinks.{Below, NotSink, on_paper, on_pipe, received, received_after, received_kept, Sink, SinkAlive, sink_alive_after, sink_handle, sink_is_read, sink_output, sink_pipe, sink_there}

pub data Mode : Type 0 where
  running : Mode
  exited : Mode
  killed : Mode

abbrev pub has_exited : Mode → Bool
has_exited running = false
has_exited exited = true
has_exited killed = false

pub record Member : Type 0 where
  pub events : List Event
  pub local : Local
  pub table : List ℕ
  pub mode : Mode

abbrev pub update : (ℕ → Member) → ℕ → Member → ℕ → Member
update D j m k = pick (eqb k j) m (D k)

update_same : (D : ℕ → Member) (j k : ℕ) (m : Member) → k ≡ j → update D j m k ≡ m
update_same D j k m e = let h : eqb k j ≡ true = grind arith in ap (λ z. pick z m (D k)) h

update_other : (D : ℕ → Member) (j k : ℕ) (m : Member) → (k ≡ j → ⊥) → update D j m k ≡ D k
update_other D j k m e = by (eqb k j) refl
  where
    by : (z : Bool) → eqb k j ≡ z → pick z m (D k) ≡ D k
    by true h = absurd (e (grind arith))
    by false h = refl

abbrev pub Disjoint : List ℕ → List ℕ → System → Type 0
Disjoint as₁ bs s = (a b i : ℕ) → nth as₁ a ≡ some i → nth bs b ≡ some i → Fixed (nth s.handles i)

abbrev pub InRange : List ℕ → System → Type 0
InRange as₁ s = (a i : ℕ) → nth as₁ a ≡ some i → i < length s.handles

-- a pipeline: how many members, from which number on, their local processes, their ends, and the root
pub record Setup : Type 0 where
  pub count : ℕ
  pub first_pid : ℕ
  pub locals : ℕ → Local
  pub in0 : ℕ → Handle
  pub out0 : ℕ → Handle
  pub stdin_handle : ℕ → ℕ
  pub stdout_handle : ℕ → ℕ
  pub pipe_of : ℕ → ℕ
  pub root : Process
  pub root_local : Local
  pub root_table : List ℕ
  pub before : List ℕ
  pub root_pid : ℕ
  pub sink : Sink
  pub root_before : root_pid < first_pid
  pub sink_low : Below sink first_pid
  pub away : (j : ℕ) → NotSink sink (pipe_of j)
  pub first : in0 0 ≡ host_input
  pub nexts : (j : ℕ) → suc j < count → in0 (suc j) ≡ pipe_read (pipe_of j)
  pub middle : (j : ℕ) → suc j < count → out0 j ≡ pipe_write (pipe_of j)
  pub last : (j : ℕ) → suc j ≡ count → out0 j ≡ sink_handle sink
  pub pipes_distinct : (j k : ℕ) → pipe_of j ≡ pipe_of k → j ≡ k

abbrev pub MemberState : Setup → Mode → System → ℕ → Member → Type 0
MemberState g running s j m = (w : Process) × (find_process s.processes (g.first_pid + j) ≡ some w)
    × Disciplined (g.stdin_handle j) (g.stdout_handle j) true w × Simulates (g.in0 j) (g.out0 j) m.table s w m.local
    × (exit_status s.exited (g.first_pid + j) ≡ none)
MemberState g exited s j m = (find_process s.processes (g.first_pid + j) ≡ none)
    × ((n : ℕ) × (local_step m.local ≡ finished n) × (exit_status s.exited (g.first_pid + j) ≡ some n))
MemberState g killed s j m = (find_process s.processes (g.first_pid + j) ≡ none) × (suc j < g.count) × (find_process s.processes (g.first_pid + suc j) ≡ none)

pub record Phase (g : Setup) (s : System) (D : ℕ → Member) : Type 0 where
  pub members : (j : ℕ) → j < g.count → MemberState g (D j).mode s j (D j)
  pub in_range : (j : ℕ) → j < g.count → InRange (D j).table s
  pub disjoint : (j k : ℕ) → j < g.count → k < g.count → (j ≡ k → ⊥) → Disjoint (D j).table (D k).table s
  pub traces : (j : ℕ) → j < g.count → Trace Local local_step (g.locals j) (D j).events (D j).local
  pub first_reads : Buffered (inputs (D 0).events) [] [] true
  pub contents : (j : ℕ) → suc j < g.count → Contents s (g.pipe_of j) (inputs (D (suc j)).events) (outputs (D j).events) (has_exited (D j).mode)
  pub paper : (j : ℕ) → suc j ≡ g.count → received g.sink s ≡ g.before ++ outputs (D j).events
  pub sink_alive : SinkAlive g.sink s
  pub base : (j : ℕ) → j < g.count → (nth s.handles (g.stdin_handle j) ≡ some (g.in0 j)) × (nth s.handles (g.stdout_handle j) ≡ some (g.out0 j))
  pub known : (q : ℕ) (w : Process) → find_process s.processes q ≡ some w → (q < g.first_pid) ⊎ ((j : ℕ) × (j < g.count) × (q ≡ g.first_pid + j))
  pub rooted : find_process s.processes g.root_pid ≡ some g.root
  pub root_simulates : Simulates host_input (sink_handle g.sink) g.root_table s g.root g.root_local
  pub root_disjoint : (j : ℕ) → j < g.count → Disjoint (D j).table g.root_table s
  pub input : s.input ≡ []
  pub root_not_exited : exit_status s.exited g.root_pid ≡ none
  pub once : Unique s.processes
  pub next_is : s.next_pid ≡ g.first_pid + g.count
  pub fresh : (q : ℕ) → g.first_pid + g.count ≤ q → exit_status s.exited q ≡ none

-- what a step of the j-th member changes
pub record Changes (g : Setup) (s t : System) (j : ℕ) (table : List ℕ) : Type 0 where
  pub longer : length s.handles ≤ length t.handles
  pub others : (i : ℕ) → i < length s.handles → ((a : ℕ) → nth table a ≡ some i → Fixed (nth s.handles i)) → nth t.handles i ≡ nth s.handles i
  pub files : t.files ≡ s.files
  pub input : t.input ≡ s.input
  pub finds : (q : ℕ) → (q ≡ g.first_pid + j → ⊥) → find_process t.processes q ≡ find_process s.processes q
  pub statuses : (q : ℕ) → (q ≡ g.first_pid + j → ⊥) → exit_status t.exited q ≡ exit_status s.exited q
  pub once : Unique t.processes
  pub next1 : t.next_pid ≡ s.next_pid

pub input_handle : (g : Setup) (j : ℕ) → j < g.count → InputHandle (g.in0 j)
input_handle g zero h = subst InputHandle (sym g.first) tt
input_handle g (suc j) h = subst InputHandle (sym (g.nexts j h)) tt

pub output_handle : (g : Setup) (j : ℕ) → j < g.count → OutputHandle (g.out0 j)
output_handle g j h = by (next_or_last j g.count h)
  where
    by : (suc j < g.count) ⊎ (suc j ≡ g.count) → OutputHandle (g.out0 j)
    by (inl k) = subst OutputHandle (sym (g.middle j k)) tt
    by (inr k) = subst OutputHandle (sym (g.last j k)) (sink_output g.sink)

pub stay_simulated : (i o : Handle) (table table' : List ℕ) (s t : System) (w : Process) (y : Local) → length s.handles ≤ length t.handles
    → ((i : ℕ) → i < length s.handles → ((a : ℕ) → nth table' a ≡ some i → Fixed (nth s.handles i)) → nth t.handles i ≡ nth s.handles i)
    → t.files ≡ s.files → Disjoint table' table s → Simulates i o table s w y → Simulates i o table t w y
stay_simulated i o table table' s t w y lo ot fi ap1 l = record {
  like = l.like;
  agrees = record {
    lengths = l.agrees.lengths;
    within = λ a n r. omega (arith, l.agrees.within a n r, lo);
    once = l.agrees.once;
    alike = λ a n r. subst (λ z. Alike i o z (nth y.system.handles a)) (sym (ot n (l.agrees.within a n r) (λ b q. ap1 b a n q r)))
        (l.agrees.alike a n r);
    files = fi ∙ l.agrees.files;
  };
}

pub phase_after : (g : Setup) (s t : System) (D : ℕ → Member) (j : ℕ) (m' : Member) (w : Process) → Phase g s D → j < g.count
    → find_process s.processes (g.first_pid + j) ≡ some w → Changes g s t j (D j).table → Grown (D j).table s m'.table t
    → InRange m'.table t → MemberState g m'.mode t j m' → Trace Local local_step (g.locals j) m'.events m'.local
    → (j ≡ 0 → Buffered (inputs m'.events) [] [] true) → ((k : ℕ) → suc k < g.count
    → Contents t (g.pipe_of k) (inputs (update D j m' (suc k)).events) (outputs (update D j m' k).events) (has_exited (update D j m' k).mode))
    → ((k : ℕ) → suc k ≡ g.count → received g.sink t ≡ g.before ++ outputs (update D j m' k).events) → SinkAlive g.sink t
    → Phase g t (update D j m')
phase_after g s t D j m' w ph h fw tr gr rg st rn tk tp pa sk = record {
  members = λ k l. each1 k l (equal_or_not k j);
  in_range = λ k l. range1 k l (equal_or_not k j);
  disjoint = λ k l p q n. apart1 k l p q n (equal_or_not k j) (equal_or_not l j);
  traces = λ k l. runs1 k l (equal_or_not k j);
  first_reads = taking1 (equal_or_not 0 j);
  contents = tp;
  paper = pa;
  sink_alive = sk;
  base = base1;
  known = λ q v e. known1 q v e (equal_or_not q (g.first_pid + j));
  rooted = tr.finds g.root_pid
      (λ e. absurd (omega (arith, e, g.root_before))) ∙ ph.rooted;
  root_simulates = stay_simulated host_input (sink_handle g.sink) g.root_table
      (D j).table s t g.root g.root_local tr.longer tr.others tr.files (ph.root_disjoint j h) ph.root_simulates;
  root_disjoint = λ k l. rooted1 k l (equal_or_not k j);
  input = tr.input ∙ ph.input;
  root_not_exited = tr.statuses g.root_pid (λ e. absurd (omega (arith, e, g.root_before))) ∙ ph.root_not_exited;
  once = tr.once;
  next_is = tr.next1 ∙ ph.next_is;
  fresh = λ q l. tr.statuses q (λ e. absurd (omega (arith, e, l, h))) ∙ ph.fresh q l;
}
  where
    kept : (i : ℕ) → i < length s.handles → Fixed (nth s.handles i) → Fixed (nth t.handles i)
    kept i l fx = subst Fixed (sym (tr.others i l (λ a r. fx))) fx

    other : (k : ℕ) → (k ≡ j → ⊥) → (g.first_pid + k ≡ g.first_pid + j → ⊥)
    other k n e = n (omega (arith, e))

    stat1 : (k : ℕ) → k < g.count → (k ≡ j → ⊥) → (mo : Mode) → MemberState g mo s k (D k) → MemberState g mo t k (D k)
    stat1 k l n running a = (
      a.0,
      tr.finds (g.first_pid + k) (other k n) ∙ a.1,
      a.2,
      stay_simulated (g.in0 k) (g.out0 k) (D k).table (D j).table s t a.0 (D k).local tr.longer tr.others tr.files
          (ph.disjoint j k h l (λ e. n (sym e))) a.3,
      tr.statuses (g.first_pid + k) (other k n) ∙ a.4,
    )
    stat1 k l n exited a = (tr.finds (g.first_pid + k) (other k n) ∙ a.0, (a.1.0, a.1.1, tr.statuses (g.first_pid + k) (other k n) ∙ a.1.2))
    stat1 k l n killed a = (tr.finds (g.first_pid + k) (other k n) ∙ a.0, a.1, nextk (equal_or_not (suc k) j))
      where
        nextk : (suc k ≡ j) ⊎ (suc k ≡ j → ⊥) → find_process t.processes (g.first_pid + suc k) ≡ none
        nextk (inl e) = absurd (no_some (sym (subst (λ z. find_process s.processes (g.first_pid + z) ≡ none) e a.2) ∙ fw))
        nextk (inr e) = tr.finds (g.first_pid + suc k) (λ z. e (omega (arith, z))) ∙ a.2

    each1 : (k : ℕ) → k < g.count → (k ≡ j) ⊎ (k ≡ j → ⊥) → MemberState g (update D j m' k).mode t k (update D j m' k)
    each1 k l (inl e) = subst (λ m. MemberState g m.mode t k m) (sym (update_same D j k m' e)) (subst (λ z. MemberState g m'.mode t z m') (sym e) st)
    each1 k l (inr e) = subst (λ m. MemberState g m.mode t k m) (sym (update_other D j k m' e)) (stat1 k l e (D k).mode (ph.members k l))

    rangek : (k : ℕ) → k < g.count → InRange (D k).table t
    rangek k l a i r = omega (arith, ph.in_range k l a i r, tr.longer)

    range1 : (k : ℕ) → k < g.count → (k ≡ j) ⊎ (k ≡ j → ⊥) → InRange (update D j m' k).table t
    range1 k l (inl e) = subst (λ m. InRange m.table t) (sym (update_same D j k m' e)) rg
    range1 k l (inr e) = subst (λ m. InRange m.table t) (sym (update_other D j k m' e)) (rangek k l)

    grow : (B : List ℕ) → InRange B s → Disjoint (D j).table B s → Grown (D j).table s m'.table t → Disjoint m'.table B t
    grow B r ap1 (inl e) a b i p q = kept i (r b i q) (ap1 a b i (ap (λ z. nth z a) (sym e) ∙ p) q)
    grow B r ap1 (inr e) a b i p q = by (nth_snoc (D j).table (length s.handles) a i (ap (λ z. nth z a) (sym e) ∙ p))
      where
        by : (nth (D j).table a ≡ some i) ⊎ ((a ≡ length (D j).table) × (i ≡ length s.handles)) → Fixed (nth t.handles i)
        by (inl z) = kept i (r b i q) (ap1 a b i z q)
        by (inr z) = absurd (omega (arith, r b i q, z.1))

    apart1 : (k l : ℕ) → k < g.count → l < g.count → (k ≡ l → ⊥) → (k ≡ j) ⊎ (k ≡ j → ⊥) → (l ≡ j) ⊎ (l ≡ j → ⊥) → Disjoint (update D j m' k).table (update D j m' l).table t
    apart1 k l p q n (inl e) (inl f) = absurd (n (e ∙ sym f))
    apart1 k l p q n (inl e) (inr f) = subst (λ m. Disjoint m.table (update D j m' l).table t) (sym (update_same D j k m' e))
        (subst (λ m. Disjoint m'.table m.table t) (sym (update_other D j l m' f))
        (grow (D l).table (ph.in_range l q) (ph.disjoint j l h q (λ z. f (sym z))) gr))
    apart1 k l p q n (inr e) (inl f) = subst (λ m. Disjoint m.table (update D j m' l).table t) (sym (update_other D j k m' e))
        (subst (λ m. Disjoint (D k).table m.table t) (sym (update_same D j l m' f))
        (λ a b i x y. grow (D k).table (ph.in_range k p) (ph.disjoint j k h p (λ z. e (sym z))) gr b a i y x))
    apart1 k l p q n (inr e) (inr f) = subst (λ m. Disjoint m.table (update D j m' l).table t) (sym (update_other D j k m' e))
        (subst (λ m. Disjoint (D k).table m.table t) (sym (update_other D j l m' f))
        (λ a b i x y. kept i (ph.in_range k p a i x) (ph.disjoint k l p q n a b i x y)))

    runs1 : (k : ℕ) → k < g.count → (k ≡ j) ⊎ (k ≡ j → ⊥) → Trace Local local_step (g.locals k) (update D j m' k).events (update D j m' k).local
    runs1 k l (inl e) = subst (λ m. Trace Local local_step (g.locals k) m.events m.local) (sym (update_same D j k m' e))
        (subst (λ z. Trace Local local_step (g.locals z) m'.events m'.local) (sym e) rn)
    runs1 k l (inr e) = subst (λ m. Trace Local local_step (g.locals k) m.events m.local) (sym (update_other D j k m' e)) (ph.traces k l)

    taking1 : (0 ≡ j) ⊎ (0 ≡ j → ⊥) → Buffered (inputs (update D j m' 0).events) [] [] true
    taking1 (inl e) = subst (λ m. Buffered (inputs m.events) [] [] true) (sym (update_same D j 0 m' e)) (tk (sym e))
    taking1 (inr e) = subst (λ m. Buffered (inputs m.events) [] [] true) (sym (update_other D j 0 m' e)) ph.first_reads

    base1 : (k : ℕ) → k < g.count → (nth t.handles (g.stdin_handle k) ≡ some (g.in0 k)) × (nth t.handles (g.stdout_handle k) ≡ some (g.out0 k))
    base1 k l = let b = ph.base k l in (
      tr.others (g.stdin_handle k) (nth_lt s.handles (g.stdin_handle k) (g.in0 k) b.0)
          (λ a r. subst Fixed (sym b.0) (fixed_input (g.in0 k) (input_handle g k l))) ∙ b.0,
      tr.others (g.stdout_handle k) (nth_lt s.handles (g.stdout_handle k) (g.out0 k) b.1)
          (λ a r. subst Fixed (sym b.1) (fixed_output (g.out0 k) (output_handle g k l))) ∙ b.1,
    )

    known1 : (q : ℕ) (v : Process) → find_process t.processes q ≡ some v → (q ≡ g.first_pid + j) ⊎ (q ≡ g.first_pid + j → ⊥) → (q < g.first_pid)
        ⊎ ((i : ℕ) × (i < g.count) × (q ≡ g.first_pid + i))
    known1 q v e (inl z) = inr (j, h, z)
    known1 q v e (inr z) = ph.known q v (sym (tr.finds q z) ∙ e)

    rooted1 : (k : ℕ) → k < g.count → (k ≡ j) ⊎ (k ≡ j → ⊥) → Disjoint (update D j m' k).table g.root_table t
    rooted1 k l (inl e) = subst (λ m. Disjoint m.table g.root_table t) (sym (update_same D j k m' e))
        (grow g.root_table ph.root_simulates.agrees.within (ph.root_disjoint j h) gr)
    rooted1 k l (inr e) = subst (λ m. Disjoint m.table g.root_table t) (sym (update_other D j k m' e))
        (λ a b i x y. kept i (ph.in_range k l a i x) (ph.root_disjoint k l a b i x y))

-- ends of different members are different
input_apart : (g : Setup) (j k : ℕ) → j < g.count → (suc k ≡ j → ⊥) → (p : ℕ) → g.in0 j ≡ pipe_read p → p ≡ g.pipe_of k → ⊥
input_apart g zero k h n p e f = subst IsPipe (sym e ∙ g.first) tt
input_apart g (suc j) k h n p e f = n (ap (λ z. suc z) (sym (g.pipes_distinct j k (ap pipe_number (sym (g.nexts j h) ∙ e) ∙ f))))

output_apart : (g : Setup) (j k : ℕ) → j < g.count → (k ≡ j → ⊥) → (p : ℕ) → g.out0 j ≡ pipe_write p → p ≡ g.pipe_of k → ⊥
output_apart g j k h n p e f = by (next_or_last j g.count h)
  where
    by : (suc j < g.count) ⊎ (suc j ≡ g.count) → ⊥
    by (inl l) = n (sym (g.pipes_distinct j k (ap pipe_number (sym (g.middle j l) ∙ e) ∙ f)))
    by (inr l) = sk g.sink (g.away k) (sym (g.last j l) ∙ e)
      where
        sk : (z : Sink) → NotSink z (g.pipe_of k) → sink_handle z ≡ pipe_write p → ⊥
        sk on_paper n q = absurd (subst IsPipe (sym q) tt)
        sk (on_pipe r m) n q = n (ap pipe_number q ∙ f)

stream_of : (b0 b1 : ℕ) (o : Handle) → OutputHandle o → Stream b0 b1 (some o)
stream_of b0 b1 (file_read x n) h = absurd h
stream_of b0 b1 (file_append x) h = absurd h
stream_of b0 b1 (pipe_read p) h = absurd h
stream_of b0 b1 (pipe_write p) h = tt
stream_of b0 b1 host_input h = absurd h
stream_of b0 b1 host_paper h = tt
stream_of b0 b1 (here_text bs) h = absurd h

-- if an end is not held, its member has exited
writer_exited : (g : Setup) (s : System) (D : ℕ → Member) (ph : Phase g s D) (k : ℕ) → suc k < g.count → (v : Process)
    → find_process s.processes (g.first_pid + suc k) ≡ some v → held s.handles (writes_pipe (g.pipe_of k)) s.processes ≡ false
    → has_exited (D k).mode ≡ true
writer_exited g s D ph k l v fv hf = by (D k).mode (ph.members k (omega arith))
  where
    by : (mo : Mode) → MemberState g mo s k (D k) → has_exited mo ≡ true
    by running a = absurd (subst (λ z. Fixed (pick z none (some (here_text [])))) (sym
        (process_holds s.processes (g.first_pid + k) a.0 (g.stdin_handle k) (g.stdout_handle k) true s.handles
        (writes_pipe (g.pipe_of k)) (or_right (handle_is s.handles (writes_pipe (g.pipe_of k)) (g.stdin_handle k)) _
        (ap (λ z. opt z false (writes_pipe (g.pipe_of k))) ((ph.base k (omega arith)).1 ∙ ap some (g.middle k l)) ∙ eqb_self (g.pipe_of k))) a.1
        a.2) ∙ hf) tt)
    by exited a = refl
    by killed a = absurd (no_some (sym a.2 ∙ fv))

reader_exited : (g : Setup) (s : System) (D : ℕ → Member) (ph : Phase g s D) (k : ℕ) → suc k < g.count
    → held s.handles (reads_pipe (g.pipe_of k)) s.processes ≡ false → find_process s.processes (g.first_pid + suc k) ≡ none
reader_exited g s D ph k l hf = by (D (suc k)).mode (ph.members (suc k) l)
  where
    by : (mo : Mode) → MemberState g mo s (suc k) (D (suc k)) → find_process s.processes (g.first_pid + suc k) ≡ none
    by running a = absurd (subst (λ z. Fixed (pick z none (some (here_text [])))) (sym
        (process_holds s.processes (g.first_pid + suc k) a.0 (g.stdin_handle (suc k)) (g.stdout_handle (suc k)) true s.handles
        (reads_pipe (g.pipe_of k)) (or_left _ _ (ap (λ z. opt z false (reads_pipe (g.pipe_of k))) ((ph.base (suc k) l).0 ∙ ap some (g.nexts k l))
        ∙ eqb_self (g.pipe_of k))) a.1 a.2) ∙ hf) tt)
    by exited a = a.0
    by killed a = a.0

input_there : (g : Setup) (s : System) (D : ℕ → Member) (ph : Phase g s D) (j : ℕ) → j < g.count → InputThere (g.in0 j) s
input_there g s D ph zero h = subst (λ o. InputThere o s) (sym g.first) tt
input_there g s D ph (suc j) h = let t = ph.contents j h in subst (λ o. InputThere o s) (sym (g.nexts j h)) (t.0, t.1)

output_there : (g : Setup) (s : System) (D : ℕ → Member) (ph : Phase g s D) (j : ℕ) → j < g.count → OutputThere (g.out0 j) s
output_there g s D ph j h = by (next_or_last j g.count h)
  where
    by : (suc j < g.count) ⊎ (suc j ≡ g.count) → OutputThere (g.out0 j) s
    by (inl l) = let t = ph.contents j l in subst (λ o. OutputThere o s) (sym (g.middle j l)) (t.0, t.1)
    by (inr l) = subst (λ o. OutputThere o s) (sym (g.last j l)) (sink_there g.sink s ph.sink_alive)

-- what a move of a member changes outside the pipeline
pub record Outside (g : Setup) (s t : System) (D E : ℕ → Member) : Type 0 where
  pub grown : (k : ℕ) → k < g.count → Grown (D k).table s (E k).table t
  pub j : ℕ
  pub lt : j < g.count
  pub trans : Changes g s t j (D j).table
  pub pipes : (q : ℕ) → ((k : ℕ) → q ≡ g.pipe_of k → ⊥) → NotSink g.sink q → nth t.pipes q ≡ nth s.pipes q
  pub paper : (q : ℕ) → sink_handle g.sink ≡ pipe_write q → t.paper ≡ s.paper

abbrev pub Next : Setup → System → (ℕ → Member) → System → Type 0
Next g s D t = (z : (E : ℕ → Member) × Phase g t E) × Outside g s t D z.0

input_not_sink : (g : Setup) (j : ℕ) → j < g.count → (p : ℕ) → g.in0 j ≡ pipe_read p → NotSink g.sink p
input_not_sink g zero h p e = absurd (subst IsPipe (sym e ∙ g.first) tt)
input_not_sink g (suc j) h p e = subst (NotSink g.sink) (ap pipe_number (sym (g.nexts j h) ∙ e)) (g.away j)

not_own_pipe : (k : Sink) (q p g : ℕ) → k ≡ on_pipe p g → NotSink k q → q ≡ p → ⊥
not_own_pipe k q p g e n f = (subst (λ z. NotSink z q) e n) (sym f)

-- a member that is not the last leaves the sink as it is
not_last : (g : Setup) (j : ℕ) (s mid : System) (e : Event) → j < g.count → suc j < g.count → Effect (g.in0 j) (g.out0 j) s e mid → (p r : ℕ)
    → g.sink ≡ on_pipe p r → nth mid.pipes p ≡ nth s.pipes p
not_last g j s mid e h l x p r z = other_pipe (g.in0 j) (g.out0 j) s mid e p x (λ q f d. not_own_pipe g.sink q p r z
    (input_not_sink g j h q f) d) (λ q f d. not_own_pipe g.sink q p r z (subst (NotSink g.sink) (ap pipe_number (sym (g.middle j l) ∙ f))
    (g.away j)) d)

continue_phase : (g : Setup) (s t : System) (D : ℕ → Member) (j : ℕ) (w v : Process) → Phase g s D → j < g.count → (D j).mode ≡ running
    → find_process s.processes (g.first_pid + j) ≡ some w → exit_status s.exited (g.first_pid + j) ≡ none → v.pid ≡ w.pid
    → Disciplined (g.stdin_handle j) (g.stdout_handle j) true v → t.files ≡ s.files → Moved (g.in0 j) (g.out0 j) (D j).table s (D j).local v t
    → Next g s D (with_processes t (replace t.processes w.pid v))
continue_phase g s t D j w v ph h al fw gn vp fv fi mv = (
  (
    update D j m',
    phase_after g s
        (with_processes t (replace t.processes w.pid v)) D j m' w ph h fw tr mv.grown mv.simulates.agrees.within (
          v,
          fnd,
          fv,
          same_handles (g.in0 j) (g.out0 j) mv.table' t (with_processes t (replace t.processes w.pid v)) v mv.target refl refl
              mv.simulates,
          ap (λ z. exit_status z (g.first_pid + j)) (mv.preserves.exited ∙ rs.exited)
              ∙ gn,
        ) (trace_snoc (D j).events mv.event (g.locals j) (D j).local mv.target (ph.traces j h) mv.fires) tk
        (λ k l. tp k l (equal_or_not k j) (equal_or_not (suc k) j)) (λ k e. pa k e (equal_or_not k j)) sk,
  ),
  record { grown = λ k l. grw k (equal_or_not k j); j = j; lt = h; trans = tr; pipes = sp; paper = spp },
)
  where
    m' : Member
    m' = record { events = (D j).events ++ (mv.event ∷ []); local = mv.target; table = mv.table'; mode = running }

    rs : SameRest s mv.mid
    rs = effect_rest (g.in0 j) (g.out0 j) s mv.mid mv.event mv.effect

    wp : w.pid ≡ g.first_pid + j
    wp = found_pid s.processes (g.first_pid + j) w fw

    ws : t.processes ≡ s.processes
    ws = mv.preserves.processes ∙ rs.processes

    fnd : find_process (replace t.processes w.pid v) (g.first_pid + j) ≡ some v
    fnd = subst (λ q. find_process (replace t.processes w.pid v) q ≡ some v) wp
        (found_replace t.processes w.pid w v (subst (λ z. find_process z w.pid ≡ some w) (sym ws)
        (subst (λ q. find_process s.processes q ≡ some w) (sym wp) fw)) vp)

    tr : Changes g s (with_processes t (replace t.processes w.pid v)) j (D j).table
    tr = record {
      longer = omega (arith, mv.preserves.longer, ap length rs.handles);
      others = λ i l k. mv.preserves.others i (omega (arith, ap length rs.handles))
          (λ a r. subst (λ os. Fixed (nth os i)) (sym rs.handles) (k a r)) ∙ ap (λ os. nth os i) rs.handles;
      files = fi;
      input = mv.preserves.input ∙ rs.input;
      finds = λ q n. other_there t.processes w.pid q v (λ e. n (e ∙ wp)) vp
          ∙ ap (λ z. find_process z q) ws;
      statuses = λ q n. ap (λ z. exit_status z q) (mv.preserves.exited ∙ rs.exited);
      once = unique_replace t.processes w.pid v vp (subst Unique (sym ws) ph.once);
      next1 = mv.preserves.next1 ∙ rs.next1;
    }

    tk : j ≡ 0 → Buffered (inputs m'.events) [] [] true
    tk e = first_input (g.in0 j) (g.out0 j) s mv.mid mv.event (D j).events mv.effect (ap g.in0 e
        ∙ g.first) (subst (λ z. Buffered (inputs (D z).events) [] [] true) (sym e) ph.first_reads)

    T : ℕ → Type 0
    T k = Contents t (g.pipe_of k) (inputs (update D j m' (suc k)).events) (outputs (update D j m' k).events) (has_exited (update D j m' k).mode)

    to_t : (q : ℕ) (is : List (Option ℕ)) (gs : List ℕ) (c : Bool) → Contents mv.mid q is gs c → Contents t q is gs c
    to_t q is gs c z = (z.0, ap (λ ps. nth ps q) mv.preserves.pipes ∙ z.1, z.2)

    tp : (k : ℕ) → suc k < g.count → (k ≡ j) ⊎ (k ≡ j → ⊥) → (suc k ≡ j) ⊎ (suc k ≡ j → ⊥) → T k
    tp k l (inl e) (inl f) = absurd (omega (arith, e, f))
    tp k l (inl e) (inr f) = subst (λ m. Contents t (g.pipe_of k) (inputs (update D j m' (suc k)).events) (outputs m.events)
        (has_exited m.mode)) (sym (update_same D j k m' e)) (subst (λ m. Contents t (g.pipe_of k) (inputs m.events)
        (outputs m'.events) false) (sym (update_other D j (suc k) m' f)) (to_t (g.pipe_of k) (inputs (D (suc k)).events)
        (outputs m'.events) false (writer_contents (g.in0 j) (g.out0 j) s mv.mid mv.event (g.pipe_of k) (D j).events
        (inputs (D (suc k)).events) mv.effect (subst (λ z. g.out0 z ≡ pipe_write (g.pipe_of k)) e (g.middle k l)) (input_apart g j k h f)
        (subst (λ z. Contents s (g.pipe_of k) (inputs (D (suc k)).events) (outputs (D j).events) (has_exited z)) al
        (subst (λ z. Contents s (g.pipe_of k) (inputs (D (suc k)).events) (outputs (D z).events) (has_exited (D z).mode)) e
        (ph.contents k l))))))
    tp k l (inr e) (inl f) = subst (λ m. Contents t (g.pipe_of k) (inputs (update D j m' (suc k)).events) (outputs m.events)
        (has_exited m.mode)) (sym (update_other D j k m' e)) (subst (λ m. Contents t (g.pipe_of k) (inputs m.events) (outputs (D k).events)
        (has_exited (D k).mode)) (sym (update_same D j (suc k) m' f)) (to_t (g.pipe_of k) (inputs m'.events) (outputs (D k).events)
        (has_exited (D k).mode) (reader_contents (g.in0 j) (g.out0 j) s mv.mid mv.event (g.pipe_of k) (D j).events (outputs (D k).events)
        (has_exited (D k).mode) mv.effect (subst (λ z. g.in0 z ≡ pipe_read (g.pipe_of k)) f (g.nexts k l)) (output_apart g j k h e)
        (writer_exited g s D ph k l w (subst (λ z. find_process s.processes (g.first_pid + z) ≡ some w) (sym f) fw))
        (subst (λ z. Contents s (g.pipe_of k) (inputs (D z).events) (outputs (D k).events) (has_exited (D k).mode)) f (ph.contents k l)))))
    tp k l (inr e) (inr f) = subst (λ m. Contents t (g.pipe_of k) (inputs (update D j m' (suc k)).events) (outputs m.events)
        (has_exited m.mode)) (sym (update_other D j k m' e)) (subst (λ m. Contents t (g.pipe_of k) (inputs m.events) (outputs (D k).events)
        (has_exited (D k).mode)) (sym (update_other D j (suc k) m' f)) (to_t (g.pipe_of k) (inputs (D (suc k)).events) (outputs (D k).events)
        (has_exited (D k).mode) (let z = ph.contents k l in (
          z.0,
          other_pipe (g.in0 j) (g.out0 j) s mv.mid mv.event (g.pipe_of k)
              mv.effect (input_apart g j k h f) (output_apart g j k h e) ∙ z.1,
          z.2,
        ))))

    T2 : System
    T2 = with_processes t (replace t.processes w.pid v)

    grw : (k : ℕ) → (k ≡ j) ⊎ (k ≡ j → ⊥) → Grown (D k).table s (update D j m' k).table T2
    grw k (inl e) = subst (λ (m : Member). Grown (D k).table s m.table T2) (sym (update_same D j k m' e)) (subst (λ z. Grown (D z).table s m'.table T2) (sym e) mv.grown)
    grw k (inr e) = subst (λ (m : Member). Grown (D k).table s m.table T2) (sym (update_other D j k m' e)) (inl refl)

    fnd2 : (q : ℕ) → q < g.first_pid → find_process T2.processes q ≡ find_process s.processes q
    fnd2 q l = tr.finds q (λ e. absurd (omega (arith, e, l)))

    sk : SinkAlive g.sink T2
    sk = sink_alive_after g.sink g.first_pid s T2 g.sink_low fnd2 (λ i p f. tr.others i (nth_lt s.handles i (pipe_read p) f)
        (λ a r. subst Fixed (sym f) tt) ∙ f) (λ p q z. let c = effect_pipe (g.in0 j) (g.out0 j) s mv.mid mv.event p mv.effect
        (sink_pipe g.sink s p q z ph.sink_alive) in (c.0, ap (λ ps. nth ps p) mv.preserves.pipes ∙ c.1)) ph.sink_alive

    to_mid : received g.sink T2 ≡ received g.sink mv.mid
    to_mid = received_kept g.sink mv.mid T2 g.first_pid g.sink_low (λ q l. fnd2 q l
        ∙ ap (λ ws. find_process ws q) (sym rs.processes)) mv.preserves.paper (λ p q z. ap (λ ps. nth ps p) mv.preserves.pipes)

    sp : (q : ℕ) → ((k : ℕ) → q ≡ g.pipe_of k → ⊥) → NotSink g.sink q → nth T2.pipes q ≡ nth s.pipes q
    sp q n ns = ap (λ ps. nth ps q) mv.preserves.pipes ∙ other_pipe (g.in0 j) (g.out0 j) s mv.mid mv.event q mv.effect
        (λ p f d. inn j h p f d) (λ p f d. out1 (next_or_last j g.count h) p f d)
      where
        inn : (j : ℕ) → j < g.count → (p : ℕ) → g.in0 j ≡ pipe_read p → p ≡ q → ⊥
        inn zero l p f d = subst IsPipe (sym f ∙ g.first) tt
        inn (suc j) l p f d = n j (sym d ∙ ap pipe_number (sym f ∙ g.nexts j l))

        out1 : (suc j < g.count) ⊎ (suc j ≡ g.count) → (p : ℕ) → g.out0 j ≡ pipe_write p → p ≡ q → ⊥
        out1 (inl l) p f d = n j (sym d ∙ ap pipe_number (sym f ∙ g.middle j l))
        out1 (inr l) p f d = ks g.sink ns (sym (g.last j l) ∙ f)
          where
            ks : (z : Sink) → NotSink z q → sink_handle z ≡ pipe_write p → ⊥
            ks on_paper m z = subst IsPipe (sym z) tt
            ks (on_pipe a b) m z = m (ap pipe_number z ∙ d)

    spp : (q : ℕ) → sink_handle g.sink ≡ pipe_write q → T2.paper ≡ s.paper
    spp q e = mv.preserves.paper ∙ by (next_or_last j g.count h)
      where
        by : (suc j < g.count) ⊎ (suc j ≡ g.count) → mv.mid.paper ≡ s.paper
        by (inl l) = other_paper (g.in0 j) (g.out0 j) s mv.mid mv.event (g.pipe_of j) mv.effect (g.middle j l)
        by (inr l) = other_paper (g.in0 j) (g.out0 j) s mv.mid mv.event q mv.effect (g.last j l ∙ e)

    pa : (k : ℕ) → suc k ≡ g.count → (k ≡ j) ⊎ (k ≡ j → ⊥) → received g.sink T2 ≡ g.before ++ outputs (update D j m' k).events
    pa k e (inl f) = to_mid ∙ received_after g.sink (g.in0 j) s mv.mid mv.event (D j).events g.before
        (subst (λ o. Effect (g.in0 j) o s mv.event mv.mid) (subst (λ z. g.out0 z ≡ sink_handle g.sink) f (g.last k e)) mv.effect)
        (input_not_sink g j h) (subst (λ z. received g.sink s ≡ g.before ++ outputs (D z).events) f (ph.paper k e))
        ∙ ap (λ m. g.before ++ outputs m.events) (sym (update_same D j k m' f))
    pa k e (inr f) = to_mid ∙ received_kept g.sink s mv.mid g.first_pid g.sink_low (λ q l. ap (λ ws. find_process ws q) rs.processes)
        (other_paper (g.in0 j) (g.out0 j) s mv.mid mv.event (g.pipe_of j) mv.effect (g.middle j (lt (next_or_last j g.count h))))
        (not_last g j s mv.mid mv.event h (lt (next_or_last j g.count h)) mv.effect) ∙ ph.paper k e
        ∙ ap (λ m. g.before ++ outputs m.events) (sym (update_other D j k m' f))
      where
        lt : (suc j < g.count) ⊎ (suc j ≡ g.count) → suc j < g.count
        lt (inl z) = z
        lt (inr z) = absurd (f (omega (arith, z, e)))

abbrev pub exits_with : System → ℕ → ℕ → System
exits_with t p n = record {
  processes = without t.processes p;
  next_pid = t.next_pid;
  handles = t.handles;
  pipes = t.pipes;
  files = t.files;
  input = t.input;
  paper = t.paper;
  exited = record { pid = p; status = n } ∷ t.exited;
}

exit_phase : (g : Setup) (s t : System) (D : ℕ → Member) (j : ℕ) (w : Process) (n : ℕ) (mo : Mode) → Phase g s D → j < g.count → (D j).mode ≡ running
    → find_process s.processes (g.first_pid + j) ≡ some w → t.files ≡ s.files → Preserves (D j).table s t → (mo ≡ running → ⊥)
    → (Changes g s (exits_with t w.pid n) j (D j).table → find_process (without t.processes w.pid) (g.first_pid + j) ≡ none
    → exit_status (record { pid = w.pid; status = n } ∷ t.exited) (g.first_pid + j) ≡ some n
    → MemberState g mo (exits_with t w.pid n) j (record { events = (D j).events; local = (D j).local; table = (D j).table; mode = mo }))
    → Next g s D (exits_with t w.pid n)
exit_phase g s t D j w n mo ph h al fw fi fr na st = (
  (
    update D j m',
    phase_after g s (exits_with t w.pid n) D j m' w ph h fw tr (inl refl)
        (λ a i r. omega (arith, ph.in_range j h a i r, fr.longer)) (st tr fnd out) (ph.traces j h)
        (λ e. subst (λ z. Buffered (inputs (D z).events) [] [] true) (sym e) ph.first_reads)
        (λ k l. tp k l (equal_or_not k j) (equal_or_not (suc k) j)) (λ k e. pa k e (equal_or_not k j)) sk,
  ),
  record {
    grown = λ k l. grw k (equal_or_not k j);
    j = j;
    lt = h;
    trans = tr;
    pipes = λ q a b. ap (λ ps. nth ps q) fr.pipes;
    paper = λ q a. fr.paper;
  },
)
  where
    m' : Member
    m' = record { events = (D j).events; local = (D j).local; table = (D j).table; mode = mo }

    wp : w.pid ≡ g.first_pid + j
    wp = found_pid s.processes (g.first_pid + j) w fw

    fnd : find_process (without t.processes w.pid) (g.first_pid + j) ≡ none
    fnd = subst (λ q. find_process (without t.processes w.pid) q ≡ none) wp (without_find t.processes w.pid (subst Unique (sym fr.processes) ph.once))

    out : exit_status (record { pid = w.pid; status = n } ∷ t.exited) (g.first_pid + j) ≡ some n
    out = subst (λ z. pick (eqb w.pid z) (some n) (exit_status t.exited z) ≡ some n) wp (ap (λ z. pick z (some n) (exit_status t.exited w.pid)) (eqb_self w.pid))

    not_eqb : (q : ℕ) → (q ≡ g.first_pid + j → ⊥) → eqb w.pid q ≡ false
    not_eqb q d = by (eqb w.pid q) refl
      where
        by : (z : Bool) → eqb w.pid q ≡ z → z ≡ false
        by true e = absurd (d (sym (eq1 w.pid q e) ∙ wp))
          where
            eq1 : (a b : ℕ) → eqb a b ≡ true → a ≡ b
            eq1 a b e = grind arith
        by false e = refl

    tr : Changes g s (exits_with t w.pid n) j (D j).table
    tr = record {
      next1 = fr.next1;
      longer = fr.longer;
      others = fr.others;
      files = fi;
      input = fr.input;
      finds = λ q d. other_left t.processes w.pid q (λ e. d (e ∙ wp)) ∙ ap (λ z. find_process z q) fr.processes;
      statuses = λ q d. ap (λ z. pick z (some n) (exit_status t.exited q)) (not_eqb q d) ∙ ap (λ z. exit_status z q) fr.exited;
      once = unique_without t.processes w.pid (subst Unique (sym fr.processes) ph.once);
    }

    more1 : (mo : Mode) (is : List (Option ℕ)) (gs bs : List ℕ) → Buffered is gs bs false → Buffered is gs bs (has_exited mo)
    more1 running is gs bs b = b
    more1 exited is gs bs b = buffered_exited is gs bs false b
    more1 killed is gs bs b = b

    es_same : (k : ℕ) → (update D j m' k).events ≡ (D k).events
    es_same k = by (equal_or_not k j)
      where
        by : (k ≡ j) ⊎ (k ≡ j → ⊥) → (update D j m' k).events ≡ (D k).events
        by (inl e) = ap (λ (m : Member). m.events) (update_same D j k m' e) ∙ ap (λ z. (D z).events) (sym e)
        by (inr e) = ap (λ (m : Member). m.events) (update_other D j k m' e)

    base : (k : ℕ) → (l : suc k < g.count) → (c : Bool) → Buffered (inputs (D (suc k)).events) (outputs (D k).events) (ph.contents k l).0 c
        → Contents t (g.pipe_of k) (inputs (update D j m' (suc k)).events) (outputs (update D j m' k).events) c
    base k l c b = let z = ph.contents k l in (
      z.0,
      ap (λ ps. nth ps (g.pipe_of k)) fr.pipes ∙ z.1,
      subst (λ es. Buffered (inputs es) (outputs (update D j m' k).events) z.0 c) (sym (es_same (suc k)))
          (subst (λ es. Buffered (inputs (D (suc k)).events) (outputs es) z.0 c) (sym (es_same k)) b),
    )

    tp : (k : ℕ) → suc k < g.count → (k ≡ j) ⊎ (k ≡ j → ⊥) → (suc k ≡ j) ⊎ (suc k ≡ j → ⊥)
        → Contents t (g.pipe_of k) (inputs (update D j m' (suc k)).events) (outputs (update D j m' k).events) (has_exited (update D j m' k).mode)
    tp k l (inl e) f = subst (λ (m : Member). Contents t (g.pipe_of k) (inputs (update D j m' (suc k)).events) (outputs (update D j m' k).events)
        (has_exited m.mode)) (sym (update_same D j k m' e)) (base k l (has_exited mo)
        (more1 mo (inputs (D (suc k)).events) (outputs (D k).events) (ph.contents k l).0
        (subst (λ z. Buffered (inputs (D (suc k)).events) (outputs (D k).events) (ph.contents k l).0 (has_exited z)) (ap (λ z. (D z).mode) e
        ∙ al) (ph.contents k l).2)))
    tp k l (inr e) f = subst (λ (m : Member). Contents t (g.pipe_of k) (inputs (update D j m' (suc k)).events) (outputs (update D j m' k).events)
        (has_exited m.mode)) (sym (update_other D j k m' e)) (base k l (has_exited (D k).mode) (ph.contents k l).2)

    T2 : System
    T2 = exits_with t w.pid n

    grw : (k : ℕ) → (k ≡ j) ⊎ (k ≡ j → ⊥) → Grown (D k).table s (update D j m' k).table T2
    grw k (inl e) = subst (λ (m : Member). Grown (D k).table s m.table T2) (sym (update_same D j k m' e)) (subst (λ z. Grown (D z).table s m'.table T2) (sym e) (inl refl))
    grw k (inr e) = subst (λ (m : Member). Grown (D k).table s m.table T2) (sym (update_other D j k m' e)) (inl refl)

    fnd2 : (q : ℕ) → q < g.first_pid → find_process T2.processes q ≡ find_process s.processes q
    fnd2 q l = tr.finds q (λ e. absurd (omega (arith, e, l)))

    sk : SinkAlive g.sink T2
    sk = sink_alive_after g.sink g.first_pid s T2 g.sink_low fnd2 (λ i p f. tr.others i (nth_lt s.handles i (pipe_read p) f)
        (λ a r. subst Fixed (sym f) tt) ∙ f) (λ p q z. let c = sink_pipe g.sink s p q z ph.sink_alive in (
          c.0,
          ap (λ ps. nth ps p) fr.pipes
              ∙ c.1,
        )) ph.sink_alive

    pa : (k : ℕ) → suc k ≡ g.count → (k ≡ j) ⊎ (k ≡ j → ⊥) → received g.sink T2 ≡ g.before ++ outputs (update D j m' k).events
    pa k e f = received_kept g.sink s T2 g.first_pid g.sink_low fnd2 fr.paper (λ p q z. ap (λ ps. nth ps p) fr.pipes) ∙ ph.paper k e
        ∙ ap (λ es. g.before ++ outputs es) (sym (es_same k))

abbrev NextStep : Mode → Type 0
NextStep running = ⊥
NextStep exited = Unit {0}
NextStep killed = Unit {0}

pub phase_move : (g : Setup) (s t : System) (D : ℕ → Member) (q : ℕ) → Phase g s D → g.first_pid ≤ q → move s q ≡ some t → Next g s D t
phase_move g s t D q ph nz e = found (find_process s.processes q) refl e
  where
    not_alive : exited ≡ running → ⊥
    not_alive p = subst NextStep p tt

    no_killed : killed ≡ running → ⊥
    no_killed p = subst NextStep p tt

    take_step : (j : ℕ) (w : Process) → j < g.count → (D j).mode ≡ running → MemberState g running s j (D j)
        → find_process s.processes (g.first_pid + j) ≡ some w → (o : Option StepResult) → step s w ≡ o
        → on_some o (λ a. some (settle w a)) ≡ some t → Next g s D t
    take_step j w h al st fw none r f = absurd (no_some f)
    take_step j w h al st fw (some a) r f = subst (Next g s D) (inside f) (by a r dd
        (subst (λ z. Stays? (g.stdin_handle j) (g.stdout_handle j) true s z) r (step_disciplined (g.stdin_handle j) (g.stdout_handle j) true s w
        (not_pipeline (g.stdin_handle j) (g.stdout_handle j) w fit) (subst (Stream (g.stdin_handle j) (g.stdout_handle j)) (sym (ph.base j h).1)
        (stream_of (g.stdin_handle j) (g.stdout_handle j) (g.out0 j) (output_handle g j h))) fit))
        (subst (λ z. Keeps? s w z) r (step_keeps s w w.control)))
      where
        same_w : st.0 ≡ w
        same_w = inside (sym st.1 ∙ fw)

        fit : Disciplined (g.stdin_handle j) (g.stdout_handle j) true w
        fit = subst (λ v. Disciplined (g.stdin_handle j) (g.stdout_handle j) true v) same_w st.2

        lk : Simulates (g.in0 j) (g.out0 j) (D j).table s w (D j).local
        lk = subst (λ v. Simulates (g.in0 j) (g.out0 j) (D j).table s v (D j).local) same_w st.3

        qt : Sequential w.control × NotCapture w.control
        qt = sequential (g.stdin_handle j) (g.stdout_handle j) true w.control w.frames w.stdin w.stdout
            (not_pipeline (g.stdin_handle j) (g.stdout_handle j) w fit) fit.place

        dd : Simulated (g.in0 j) (g.out0 j) (D j).table s (D j).local a
        dd = simulate (g.in0 j) (g.out0 j) (input_handle g j h) (output_handle g j h) (D j).table s w (D j).local lk qt.0 qt.1 ph.input
            (input_there g s D ph j h) (output_there g s D ph j h) a r

        by : (a : StepResult) → step s w ≡ some a → Simulated (g.in0 j) (g.out0 j) (D j).table s (D j).local a
            → Stays (g.stdin_handle j) (g.stdout_handle j) true s a → Keeps s w a → Next g s D (settle w a)
        by (continues v u) r d k ks = continue_phase g s u D j w v ph h al fw st.4 ks.0 k.0 k.1 d
        by (exits n u) r (inl d) k ks = exit_phase g s u D j w n exited ph h al fw k d.1 not_alive (λ tr fn ou. (fn, (n, d.0, ou)))
        by (exits n u) r (inr d) k ks = exit_phase g s u D j w n killed ph h al fw k
            (subst (λ z. Preserves (D j).table s z) (sym d.1) (preserves_self (D j).table s)) no_killed
            (λ tr fn ou. (
              fn,
              lt (next_or_last j g.count h),
              tr.finds (g.first_pid + suc j) (λ z. absurd (omega (arith, z)))
                  ∙ reader_exited g s D ph j (lt (next_or_last j g.count h)) (subst (λ p. held s.handles (reads_pipe p) s.processes ≡ false)
                  (ap pipe_number (sym d.2.1 ∙ g.middle j (lt (next_or_last j g.count h)))) d.2.2),
            ))
          where
            lt : (suc j < g.count) ⊎ (suc j ≡ g.count) → suc j < g.count
            lt (inl z) = z
            lt (inr z) = absurd (sks g.sink ph.sink_alive (sym (g.last j z) ∙ d.2.1))
              where
                sks : (k : Sink) → SinkAlive k s → sink_handle k ≡ pipe_write d.2.0 → ⊥
                sks on_paper o e = subst IsPipe (sym e) tt
                sks (on_pipe p m) o e = subst (λ z. Fixed (pick z none (some (here_text [])))) (sym (sink_is_read p m s o)
                    ∙ ap (λ z. held s.handles (reads_pipe z) s.processes) (ap pipe_number e) ∙ d.2.2) tt

    who : (j : ℕ) (w : Process) → j < g.count → find_process s.processes (g.first_pid + j) ≡ some w → (mo : Mode) → (D j).mode ≡ mo
        → MemberState g mo s j (D j) → on_some (step s w) (λ a. some (settle w a)) ≡ some t → Next g s D t
    who j w h fw running al st f = take_step j w h al st fw (step s w) refl f
    who j w h fw exited al st f = absurd (no_some (sym st.0 ∙ fw))
    who j w h fw killed al st f = absurd (no_some (sym st.0 ∙ fw))

    found : (o : Option Process) → find_process s.processes q ≡ o → on_some o (λ w. on_some (step s w) (λ a. some (settle w a))) ≡ some t → Next g s D t
    found none p f = absurd (no_some f)
    found (some w) p f = by (ph.known q w p)
      where
        by : (q < g.first_pid) ⊎ ((j : ℕ) × (j < g.count) × (q ≡ g.first_pid + j)) → Next g s D t
        by (inl z) = absurd (omega (arith, z, nz))
        by (inr z) = who z.0 w z.1 (subst (λ k. find_process s.processes k ≡ some w) z.2 p) (D z.0).mode refl (ph.members z.0 z.1) f
