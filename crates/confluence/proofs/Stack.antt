-- Processes that capture stand one below the other: each reads the pipe that the one above it writes to. A read by one of
-- them changes nothing for the others, nor for the root.
use mathlib.Core.Path.{◌∙◌, ◌≡◌, ap, refl, subst, sym}
use mathlib.Core.Logic.{◌⊎◌, inl, inr}
use mathlib.Core.Bool.{◌||◌, Bool, false, true}
use mathlib.Core.List.{[], ◌++◌, ◌∷◌, List}
use mathlib.Core.Option.{none, Option, some}
use Prim.Native.Nat.{◌+◌, ◌<◌, ◌≤◌, suc, ℕ}
use native.Mathlib.Omega.{arith}
use lib.ListN.{length}
use Rattle.syntax.specs.Base.{nth, on_some, opt, pick, put}
use Rattle.meaning.specs.System.{at_capture, at_end, at_status, at_words, exit_status, File, find_process, got, Handle, handle_is, held, here_text, host_input, in_frames, must_wait, pipe_read, pipe_write, Process, read_byte, read_handle, read_pipe, ReadByte, replace, System, with_files, with_pipes, with_processes, writes_pipe}
use Rattle.meaning.specs.Words.{insert_value}
use Rattle.meaning.specs.Step.{goes_to, move, read_or, settle, step, StepResult, trim, with_control}
use Rattle.meaning.proofs.Own.{found_pid, inside, other_there}
use Rattle.meaning.proofs.Core.{no_some}
use Rattle.confluence.proofs.Basics.{app_assoc, eqb_self, equal_or_not, nth_lt, or_right, put_other, put_same}
use Rattle.confluence.proofs.Local.{Alike, Fixed, Local}
use Rattle.confluence.proofs.Simulation.{Simulates}
use Rattle.confluence.proofs.Discipline.{WordAt}
use Rattle.confluence.proofs.Processes.{found_replace, Unique, unique_replace}
use Rattle.confluence.proofs.Holding.{control_holds, held_by}
use Rattle.confluence.proofs.Buffers.{same_handles}
use Rattle.confluence.proofs.Sinks.{BeforeSink, Below, captured_by, on_paper, on_pipe, pipe_bytes, received, received_same, SameSink, Sink, SinkAlive, sink_alive_same, SinkBefore, sink_fixed, sink_handle, SinkWritten, UpToSink}
use Rattle.confluence.proofs.Pipeline.{Disjoint, exited, InRange, killed, Member, MemberState, Mode, Phase, running, Setup}
use Rattle.confluence.proofs.Path.{Level}
use Rattle.confluence.proofs.Root.{Active}

pub record Capture : Type 0 where
  pub level : Level
  pub pid : ℕ
  pub stdout_handle : ℕ
  pub sink : Sink
  pub process : Process
  pub table : List ℕ
  pub handle : ℕ
  pub pipe : ℕ

abbrev pub idle : Process → Process
idle w = with_control w (at_status 0) w.frames

abbrev pub idle_local : Local → List File → Local
idle_local y fs = record { system = with_files y.system fs; process = with_control y.process (at_status 0) y.process.frames }

abbrev pub capturing_process : Capture → List ℕ → Process
capturing_process v bs = with_control v.process (at_capture v.handle bs v.level.quoted v.level.expansion v.level.purpose) v.process.frames

-- a process that captures
pub record Capturing (s : System) (v : Capture) : Type 0 where
  pub bytes : List ℕ
  pub found : find_process s.processes v.pid ≡ some (capturing_process v bytes)
  pub simulates : Simulates host_input (sink_handle v.sink) v.table s (idle v.process) (idle_local v.level.local s.files)
  pub disciplined : WordAt 0 v.stdout_handle false v.level.expansion v.level.purpose v.process.frames v.process.stdin v.process.stdout
  pub functions : v.process.functions ≡ []
  pub jobs : v.process.jobs ≡ []
  pub handle_open : nth s.handles v.handle ≡ some (pipe_read v.pipe)
  pub stdout_open : nth s.handles v.stdout_handle ≡ some (sink_handle v.sink)
  pub received_is : received v.sink s ≡ v.level.base
  pub sink_alive : SinkAlive v.sink s
  pub not_exited : exit_status s.exited v.pid ≡ none

pub capturing_keep : (s t : System) (v : Capture) (table bs : List ℕ) (l : Capturing s v) → length s.handles ≤ length t.handles
    → ((i : ℕ) → i < length s.handles → ((a : ℕ) → nth table a ≡ some i → Fixed (nth s.handles i)) → nth t.handles i ≡ nth s.handles i)
    → Disjoint table v.table s → find_process t.processes v.pid ≡ some (capturing_process v bs)
    → exit_status t.exited v.pid ≡ exit_status s.exited v.pid → received v.sink t ≡ received v.sink s → SinkAlive v.sink t
    → Capturing t v
capturing_keep s t v table bs l lo ot ap1 fd gn sn sk = record {
  bytes = bs;
  found = fd;
  simulates = record {
    like = l.simulates.like;
    agrees = record {
      lengths = l.simulates.agrees.lengths;
      within = λ a n r. omega (arith, l.simulates.agrees.within a n r, lo);
      once = l.simulates.agrees.once;
      alike = λ a n r. subst (λ z. Alike host_input (sink_handle v.sink) z (nth v.level.local.system.handles a))
          (sym (ot n (l.simulates.agrees.within a n r) (λ b q. ap1 b a n q r))) (l.simulates.agrees.alike a n r);
      files = refl;
    };
  };
  disciplined = l.disciplined;
  functions = l.functions;
  jobs = l.jobs;
  handle_open = keep v.handle (pipe_read v.pipe) l.handle_open tt;
  stdout_open = keep v.stdout_handle (sink_handle v.sink) l.stdout_open (sink_fixed v.sink);
  received_is = sn ∙ l.received_is;
  sink_alive = sk;
  not_exited = gn ∙ l.not_exited;
}
  where
    keep : (i : ℕ) (o : Handle) → nth s.handles i ≡ some o → Fixed (some o) → nth t.handles i ≡ some o
    keep i o f fx = ot i (nth_lt s.handles i o f) (λ a q. subst Fixed (sym f) fx) ∙ f

abbrev pub AllDisjoint : List ℕ → System → List Capture → Type 0
AllDisjoint m s [] = Unit {0}
AllDisjoint m s (v ∷ vs) = Disjoint m v.table s × AllDisjoint m s vs

abbrev pub Stack : System → ℕ → Sink → List Capture → Type 0
Stack s r k [] = (k ≡ on_paper) × (r ≡ 0)
Stack s r k (v ∷ vs) = (k ≡ on_pipe v.pipe v.pid) × (v.pid < r) × SinkBefore v.sink v.pipe × Below v.sink v.pid × Capturing s v
    × AllDisjoint v.table s vs × Stack s v.pid v.sink vs

pub fixed_kept : (s t : System) (table : List ℕ) → ((i : ℕ) → i < length s.handles → ((a : ℕ) → nth table a ≡ some i → Fixed (nth s.handles i))
    → nth t.handles i ≡ nth s.handles i) → (i : ℕ) → i < length s.handles → Fixed (nth s.handles i) → Fixed (nth t.handles i)
fixed_kept s t table ot i l fx = subst Fixed (sym (ot i l (λ a r. fx))) fx

pub disjoint_keep : (s t : System) (table m : List ℕ) (vs : List Capture) (r : ℕ) (k : Sink)
    → ((i : ℕ) → i < length s.handles → ((a : ℕ) → nth table a ≡ some i → Fixed (nth s.handles i)) → nth t.handles i ≡ nth s.handles i)
    → InRange m s → AllDisjoint m s vs → AllDisjoint m t vs
disjoint_keep s t table m [] r k ot rg h = tt
disjoint_keep s t table m (v ∷ vs) r k ot rg h = (λ a b i x y. fixed_kept s t table ot i (rg a i x) (h.0 a b i x y), disjoint_keep s t table m vs r k ot rg h.1)

-- the stack stays as it is, if its handles, processes and pipes do
pub stack_keep : (s t : System) (table : List ℕ) (vs : List Capture) (r : ℕ) (k : Sink) → length s.handles ≤ length t.handles
    → ((i : ℕ) → i < length s.handles → ((a : ℕ) → nth table a ≡ some i → Fixed (nth s.handles i)) → nth t.handles i ≡ nth s.handles i)
    → ((q : ℕ) → q < r → find_process t.processes q ≡ find_process s.processes q)
    → ((q : ℕ) → q < r → exit_status t.exited q ≡ exit_status s.exited q) → ((q : ℕ) → BeforeSink k q → nth t.pipes q ≡ nth s.pipes q)
    → ((q : ℕ) → sink_handle k ≡ pipe_write q → t.paper ≡ s.paper) → AllDisjoint table s vs → Stack s r k vs → Stack t r k vs
stack_keep s t table [] r k lo ot fn gn pp pa aa st = st
stack_keep s t table (v ∷ vs) r k lo ot fn gn pp pa aa st = (
  st.0,
  st.1,
  st.2,
  st.3,
  capturing_keep s t v table st.4.bytes st.4 lo ot aa.0 (fn v.pid st.1
      ∙ st.4.found) (gn v.pid st.1) (received_same v.sink s t ss) (sink_alive_same v.sink s t ss op st.4.sink_alive),
  disjoint_keep s t table v.table vs v.pid v.sink ot st.4.simulates.agrees.within st.5,
  stack_keep s t table vs v.pid v.sink lo ot (λ q l. fn q (omega (arith, l, st.1))) (λ q l. gn q (omega (arith, l, st.1)))
      (λ q u. pk q (un v.sink st.2 q u)) (λ q e. pa2) aa.1 st.6,
)
  where
    pk : (q : ℕ) → q < v.pipe → nth t.pipes q ≡ nth s.pipes q
    pk q l = pp q (subst (λ z. BeforeSink z q) (sym st.0) l)

    pa2 : t.paper ≡ s.paper
    pa2 = pa v.pipe (ap sink_handle st.0)

    un : (z : Sink) → SinkBefore z v.pipe → (q : ℕ) → BeforeSink z q → q < v.pipe
    un on_paper a q u = absurd u
    un (on_pipe p g) a q u = omega (arith, a, u)

    op : (i p : ℕ) → nth s.handles i ≡ some (pipe_read p) → nth t.handles i ≡ some (pipe_read p)
    op i p f = ot i (nth_lt s.handles i (pipe_read p) f) (λ a q. subst Fixed (sym f) tt) ∙ f

    ss : SameSink v.sink s t
    ss = by v.sink st.2 st.3
      where
        by : (z : Sink) → SinkBefore z v.pipe → Below z v.pid → SameSink z s t
        by on_paper a b = pa2
        by (on_pipe p g) a b = (fn g (omega (arith, b, st.1)), pk p a)

-- what a read by process a from pipe p leaves as it is
pub record OnlyReads (a p : ℕ) (s t : System) : Type 0 where
  pub handles : t.handles ≡ s.handles
  pub files : t.files ≡ s.files
  pub input : t.input ≡ s.input
  pub paper : t.paper ≡ s.paper
  pub exited : t.exited ≡ s.exited
  pub next1 : t.next_pid ≡ s.next_pid
  pub finds : (q : ℕ) → (q ≡ a → ⊥) → find_process t.processes q ≡ find_process s.processes q
  pub pipes : (q : ℕ) → (q ≡ p → ⊥) → nth t.pipes q ≡ nth s.pipes q
  pub once : Unique s.processes → Unique t.processes

abbrev pub read_more : System → Capture → List ℕ → ℕ → List ℕ → System
read_more s v bs b cs = with_processes (with_pipes s (put s.pipes v.pipe cs)) (replace s.processes v.pid (capturing_process v (bs ++ (b ∷ []))))

abbrev pub read_all : System → Capture → List ℕ → System
read_all s v bs = with_processes s (replace s.processes v.pid (with_control v.process
    (at_words (insert_value v.level.expansion v.level.quoted (trim bs)) v.level.purpose) v.process.frames))

read_or_cases : (s : System) (d : ℕ) (f : System → ℕ → Option StepResult) (z : Option StepResult) (g : ReadByte) → read_byte s d ≡ g
    → (o : StepResult) → read_or s d f z ≡ some o → ((b : ℕ) × (u : System) × (g ≡ got b u) × (f u b ≡ some o)) ⊎ ((g ≡ at_end) × (z ≡ some o))
read_or_cases s d f z (got b u) e o h = inl (b, u, refl, rw1 (reading s d f z b u e) h)
  where
    reading : (s : System) (d : ℕ) (f : System → ℕ → Option StepResult) (z : Option StepResult) (b : ℕ) (u : System) → read_byte s d ≡ got b u → read_or s d f z ≡ f u b
    reading s d f z b u e = rw e

    rw1 : {A : Type 0} {x y w : A} → x ≡ y → x ≡ w → y ≡ w
    rw1 p q = sym p ∙ q
read_or_cases s d f z at_end e o h = inr (refl, rw1 (reading s d f z e) h)
  where
    reading : (s : System) (d : ℕ) (f : System → ℕ → Option StepResult) (z : Option StepResult) → read_byte s d ≡ at_end → read_or s d f z ≡ z
    reading s d f z e = rw e

    rw1 : {A : Type 0} {x y w : A} → x ≡ y → x ≡ w → y ≡ w
    rw1 p q = sym p ∙ q
read_or_cases s d f z must_wait e o h = absurd (no_some (rw1 (reading s d f z e) h))
  where
    reading : (s : System) (d : ℕ) (f : System → ℕ → Option StepResult) (z : Option StepResult) → read_byte s d ≡ must_wait → read_or s d f z ≡ none
    reading s d f z e = rw e

    rw1 : {A : Type 0} {x y w : A} → x ≡ y → x ≡ w → y ≡ w
    rw1 p q = sym p ∙ q

abbrev pub Captured : System → Capture → List ℕ → List ℕ → System → Type 0
Captured s v bs cs t = ((b : ℕ) × (ds : List ℕ) × (cs ≡ b ∷ ds) × (t ≡ read_more s v bs b ds))
    ⊎ ((cs ≡ []) × (held s.handles (writes_pipe v.pipe) s.processes ≡ false) × (t ≡ read_all s v bs))

pub capture_step : (s t : System) (v : Capture) (l : Capturing s v) (cs : List ℕ) → nth s.pipes v.pipe ≡ some cs → move s v.pid ≡ some t → Captured s v l.bytes cs t
capture_step s t v l cs pc e = by cs pc (step s (capturing_process v l.bytes)) refl
    (subst (λ z. on_some z (λ w. on_some (step s w) (λ a. some (settle w a))) ≡ some t) l.found e)
  where
    wp : v.process.pid ≡ v.pid
    wp = found_pid s.processes v.pid (capturing_process v l.bytes) l.found

    rd1 : (cs : List ℕ) → nth s.pipes v.pipe ≡ some cs → read_byte s v.handle ≡ read_pipe s v.pipe cs
    rd1 cs pc = ap (λ o. opt o at_end (read_handle s v.handle)) l.handle_open ∙ ap (λ o. opt o at_end (read_pipe s v.pipe)) pc

    by : (cs : List ℕ) → nth s.pipes v.pipe ≡ some cs → (o : Option StepResult) → step s (capturing_process v l.bytes) ≡ o
        → on_some o (λ a. some (settle (capturing_process v l.bytes) a)) ≡ some t → Captured s v l.bytes cs t
    by cs pc none f g = absurd (no_some g)
    by (b ∷ ds) pc (some a) f g = go (read_or_cases s v.handle _ _ _ (rd1 (b ∷ ds) pc) a f)
      where
        go : ((c : ℕ) × (u : System) × (got b (with_pipes s (put s.pipes v.pipe ds)) ≡ got c u)
            × (some (goes_to u (capturing_process v l.bytes) (at_capture v.handle (l.bytes ++ (c ∷ [])) v.level.quoted
            v.level.expansion v.level.purpose) v.process.frames) ≡ some a))
            ⊎ ((got b (with_pipes s (put s.pipes v.pipe ds)) ≡ at_end) × (some
            (goes_to s (capturing_process v l.bytes) (at_words (insert_value v.level.expansion v.level.quoted (trim l.bytes))
            v.level.purpose) v.process.frames) ≡ some a)) → Captured s v l.bytes (b ∷ ds) t
        go (inl z) = inl (b, ds, refl, sym (inside g) ∙ ap (settle (capturing_process v l.bytes)) (sym (inside z.3)) ∙ same1 z.0 z.1 z.2)
          where
            gb : ReadByte → ℕ
            gb (got x u) = x
            gb at_end = 0
            gb must_wait = 0

            gs : ReadByte → System
            gs (got x u) = u
            gs at_end = s
            gs must_wait = s

            same1 : (c : ℕ) (u : System) → got b (with_pipes s (put s.pipes v.pipe ds)) ≡ got c u
                → settle (capturing_process v l.bytes) (goes_to u (capturing_process v l.bytes)
                (at_capture v.handle (l.bytes ++ (c ∷ [])) v.level.quoted v.level.expansion v.level.purpose)
                v.process.frames) ≡ read_more s v l.bytes b ds
            same1 c u h = sym (λ i. settle (capturing_process v l.bytes) (goes_to (gs (h i)) (capturing_process v l.bytes)
                (at_capture v.handle (l.bytes ++ (gb (h i) ∷ [])) v.level.quoted v.level.expansion v.level.purpose)
                v.process.frames)) ∙ ap (λ q. with_processes (with_pipes s (put s.pipes v.pipe ds))
                (replace s.processes q (capturing_process v (l.bytes ++ (b ∷ []))))) wp
        go (inr z) = absurd (subst IsGot z.0 tt)
          where
            IsGot : ReadByte → Type 0
            IsGot (got x u) = Unit {0}
            IsGot at_end = ⊥
            IsGot must_wait = ⊥
    by [] pc (some a) f g = hd (held s.handles (writes_pipe v.pipe) s.processes) refl (read_or_cases s v.handle _ _ _ (rd1 [] pc) a f)
      where
        IsNo : ReadByte → Type 0
        IsNo (got x u) = ⊥
        IsNo at_end = Unit {0}
        IsNo must_wait = ⊥

        IsGo : ReadByte → Type 0
        IsGo (got x u) = Unit {0}
        IsGo at_end = ⊥
        IsGo must_wait = ⊥

        no_go : (h : Bool) → IsGo (pick h must_wait at_end) → ⊥
        no_go true x = x
        no_go false x = x

        hd : (h : Bool) → held s.handles (writes_pipe v.pipe) s.processes ≡ h
            → ((c : ℕ) × (u : System) × (pick (held s.handles (writes_pipe v.pipe) s.processes) must_wait at_end ≡ got c u)
            × (some (goes_to u (capturing_process v l.bytes) (at_capture v.handle (l.bytes ++ (c ∷ [])) v.level.quoted
            v.level.expansion v.level.purpose) v.process.frames) ≡ some a))
            ⊎ ((pick (held s.handles (writes_pipe v.pipe) s.processes) must_wait at_end ≡ at_end)
            × (some (goes_to s (capturing_process v l.bytes) (at_words (insert_value v.level.expansion v.level.quoted (trim l.bytes))
            v.level.purpose) v.process.frames) ≡ some a)) → Captured s v l.bytes [] t
        hd h e (inl z) = absurd (no_go h (subst IsGo (sym z.2 ∙ ap (λ b. pick b must_wait at_end) e) tt))
        hd true e (inr z) = absurd (subst IsNo (sym z.0 ∙ ap (λ b. pick b must_wait at_end) e) tt)
        hd false e (inr z) = inr (
          refl,
          e,
          sym (inside g) ∙ ap (settle (capturing_process v l.bytes)) (sym (inside z.1))
              ∙ ap (λ q. with_processes s (replace s.processes q (with_control v.process
              (at_words (insert_value v.level.expansion v.level.quoted (trim l.bytes)) v.level.purpose) v.process.frames))) wp,
        )

or_three : (a b c : Bool) → (a || b) ≡ true → (a || (b || c)) ≡ true
or_three true b c h = refl
or_three false true c h = refl
or_three false false c h = absurd (subst (λ z. Fixed (pick z (some (here_text [])) none)) h tt)

-- it holds the end that it writes to
pub capturing_holds : (s : System) (v : Capture) → Capturing s v → SinkWritten v.sink s
capturing_holds s v l = by v.sink l.stdout_open
  where
    by : (k : Sink) → nth s.handles v.stdout_handle ≡ some (sink_handle k) → SinkWritten k s
    by on_paper e = tt
    by (on_pipe p g) e = held_by s.processes v.pid (capturing_process v l.bytes) s.handles (writes_pipe p) l.found
        (or_three (handle_is s.handles (writes_pipe p) v.process.stdin || handle_is s.handles (writes_pipe p) v.process.stdout)
        (in_frames s.handles (writes_pipe p) v.process.frames) _ (control_holds 0 v.stdout_handle false s.handles (writes_pipe p)
        (at_words v.level.expansion v.level.purpose) v.process.frames v.process.stdin v.process.stdout
        (or_right (handle_is s.handles (writes_pipe p) 0) _ (ap (λ o. opt o false (writes_pipe p)) e ∙ eqb_self p)) l.disciplined))

abbrev pub IsCapture : ℕ → List Capture → Type 0
IsCapture q [] = ⊥
IsCapture q (v ∷ vs) = (q ≡ v.pid) ⊎ IsCapture q vs

read_more_only : (s : System) (v : Capture) (bs : List ℕ) (b : ℕ) (ds : List ℕ) → v.process.pid ≡ v.pid → OnlyReads v.pid v.pipe s (read_more s v bs b ds)
read_more_only s v bs b ds wp = record {
  handles = refl;
  files = refl;
  input = refl;
  paper = refl;
  exited = refl;
  next1 = refl;
  finds = λ q n. other_there s.processes v.pid q (capturing_process v (bs ++ (b ∷ []))) n wp;
  pipes = λ q n. put_other s.pipes v.pipe q ds (λ e. n (sym e));
  once = λ o. unique_replace s.processes v.pid
      (capturing_process v (bs ++ (b ∷ []))) wp o;
}

pub record ReadStep (s t : System) (r : ℕ) (k : Sink) (vs : List Capture) : Type 0 where
  pub reader : ℕ
  pub pipe : ℕ
  pub is_capture : IsCapture reader vs
  pub lt : reader < r
  pub up_to : UpToSink k pipe
  pub reads : OnlyReads reader pipe s t
  pub stack : Stack t r k vs
  pub received_is : received k t ≡ received k s
  pub sink_alive : SinkAlive k t

-- a byte is read
pub read_one : (s : System) (v : Capture) (vs : List Capture) (r : ℕ) (k : Sink) (st : Stack s r k (v ∷ vs)) (b : ℕ) (ds : List ℕ)
    → nth s.pipes v.pipe ≡ some (b ∷ ds) → ReadStep s (read_more s v st.4.bytes b ds) r k (v ∷ vs)
read_one s v vs r k st b ds pc = record {
  reader = v.pid;
  pipe = v.pipe;
  is_capture = inl refl;
  lt = st.1;
  up_to = subst (λ z. UpToSink z v.pipe) (sym st.0) (omega arith);
  reads = fo;
  stack = (
    st.0,
    st.1,
    st.2,
    st.3,
    capturing_keep s T v [] (st.4.bytes ++ (b ∷ [])) st.4 (omega arith) (λ i l f. refl)
        (λ a b i x y. absurd (no_some x)) fd refl (received_same v.sink s T ss) (sink_alive_same v.sink s T ss (λ i p f. f) st.4.sink_alive),
    st.5,
    stack_keep s T [] vs v.pid v.sink (omega arith) (λ i l f. refl) (λ z l. fo.finds z (λ e. absurd (omega (arith, e, l))))
        (λ z l. refl) (λ z u. fo.pipes z (λ e. absurd (omega (arith, e, ul v.sink st.2 z u)))) (λ z e. refl) (none_shared vs) st.6,
  );
  received_is = subst (λ z. received z T ≡ received z s) (sym st.0) sn;
  sink_alive = subst (λ z. SinkAlive z T) (sym st.0) (
    capturing_process v (st.4.bytes ++ (b ∷ [])),
    fd,
    (
      v.handle,
      st.4.bytes ++ (b ∷ []),
      v.level.quoted,
      v.level.expansion,
      v.level.purpose,
      refl,
      st.4.handle_open,
    ),
    (ds, pn),
  );
}
  where
    wp : v.process.pid ≡ v.pid
    wp = found_pid s.processes v.pid (capturing_process v st.4.bytes) st.4.found

    T : System
    T = read_more s v st.4.bytes b ds

    fo : OnlyReads v.pid v.pipe s T
    fo = read_more_only s v st.4.bytes b ds wp

    fd : find_process T.processes v.pid ≡ some (capturing_process v (st.4.bytes ++ (b ∷ [])))
    fd = found_replace s.processes v.pid (capturing_process v st.4.bytes) (capturing_process v (st.4.bytes ++ (b ∷ []))) st.4.found wp

    pn : nth T.pipes v.pipe ≡ some ds
    pn = put_same s.pipes v.pipe ds (nth_lt s.pipes v.pipe (b ∷ ds) pc)

    none_shared : (us : List Capture) → AllDisjoint [] s us
    none_shared [] = tt
    none_shared (u ∷ us) = (λ a b i x y. absurd (no_some x), none_shared us)

    ul : (z : Sink) → SinkBefore z v.pipe → (q : ℕ) → BeforeSink z q → q < v.pipe
    ul on_paper a q u = absurd u
    ul (on_pipe p g) a q u = omega (arith, a, u)

    ss : SameSink v.sink s T
    ss = sb v.sink st.2 st.3
      where
        sb : (z : Sink) → SinkBefore z v.pipe → Below z v.pid → SameSink z s T
        sb on_paper a c = refl
        sb (on_pipe p g) a c = (fo.finds g (λ e. absurd (omega (arith, e, c))), fo.pipes p (λ e. absurd (omega (arith, e, a))))

    sn : captured_by (find_process T.processes v.pid) ++ pipe_bytes (nth T.pipes v.pipe) ≡ captured_by
        (find_process s.processes v.pid) ++ pipe_bytes (nth s.pipes v.pipe)
    sn = (λ i. captured_by (fd i) ++ pipe_bytes (pn i)) ∙ app_assoc st.4.bytes (b ∷ []) ds ∙ sym (λ i. captured_by (st.4.found i) ++ pipe_bytes (pc i))

-- a move of a process that captures, while the one above it runs: it reads a byte, and nothing else changes
pub stack_read : (s t : System) (q : ℕ) (vs : List Capture) (r : ℕ) (k : Sink) → Stack s r k vs → SinkAlive k s → SinkWritten k s → IsCapture q vs
    → move s q ≡ some t → ReadStep s t r k vs
stack_read s t q [] r k st sk ih m e = absurd m
stack_read s t q (v ∷ vs) r k st sk ih (inr m) e = up (stack_read s t q vs v.pid v.sink st.6 st.4.sink_alive (capturing_holds s v st.4) m e)
  where
    up : ReadStep s t v.pid v.sink vs → ReadStep s t r k (v ∷ vs)
    up rr = record {
      reader = rr.reader;
      pipe = rr.pipe;
      is_capture = inr rr.is_capture;
      lt = omega (arith, rr.lt, st.1);
      up_to = subst (λ z. UpToSink z rr.pipe) (sym st.0) (lo v.sink st.2 rr.up_to);
      reads = rr.reads;
      stack = (
        st.0,
        st.1,
        st.2,
        st.3,
        capturing_keep s t v [] st.4.bytes st.4 (omega (arith, ap length rr.reads.handles))
            (λ i l f. ap (λ os. nth os i) rr.reads.handles) (λ a b i x y. absurd (no_some x)) (fn
            ∙ st.4.found) (ap (λ g. exit_status g v.pid) rr.reads.exited) rr.received_is rr.sink_alive,
        disjoint_keep s t [] v.table vs r k (λ i l f. ap (λ os. nth os i) rr.reads.handles) st.4.simulates.agrees.within st.5,
        rr.stack,
      );
      received_is = received_same k s t ss;
      sink_alive = sink_alive_same k s t ss (λ i p f. ap (λ os. nth os i) rr.reads.handles
          ∙ f) sk;
    }
      where
        lo : (z : Sink) → SinkBefore z v.pipe → UpToSink z rr.pipe → rr.pipe ≤ v.pipe
        lo on_paper x y = absurd y
        lo (on_pipe p g) x y = omega (arith, x, y)

        lt1 : (z : Sink) → SinkBefore z v.pipe → UpToSink z rr.pipe → rr.pipe < v.pipe
        lt1 on_paper x y = absurd y
        lt1 (on_pipe p g) x y = omega (arith, x, y)

        fn : find_process t.processes v.pid ≡ find_process s.processes v.pid
        fn = rr.reads.finds v.pid (λ z. absurd (omega (arith, z, rr.lt)))

        ss : SameSink k s t
        ss = subst (λ z. SameSink z s t) (sym st.0) (fn, rr.reads.pipes v.pipe (λ z. absurd (omega (arith, z, lt1 v.sink st.2 rr.up_to))))
stack_read s t q (v ∷ vs) r k st sk ih (inl m) e = by (capture_step s t v st.4 sp.0 sp.1 (subst (λ z. move s z ≡ some t) m e))
  where
    sk1 : SinkAlive (on_pipe v.pipe v.pid) s
    sk1 = subst (λ z. SinkAlive z s) st.0 sk

    sp : (cs : List ℕ) × (nth s.pipes v.pipe ≡ some cs)
    sp = sk1.3

    ih1 : held s.handles (writes_pipe v.pipe) s.processes ≡ true
    ih1 = subst (λ z. SinkWritten z s) st.0 ih

    wp : v.process.pid ≡ v.pid
    wp = found_pid s.processes v.pid (capturing_process v st.4.bytes) st.4.found

    by : Captured s v st.4.bytes sp.0 t → ReadStep s t r k (v ∷ vs)
    by (inl z) = subst (λ u. ReadStep s u r k (v ∷ vs)) (sym z.3) (read_one s v vs r k st z.0 z.1 (sp.1 ∙ ap some z.2))
    by (inr z) = absurd (subst (λ b. Fixed (pick b none (some (here_text [])))) (sym ih1 ∙ z.1) tt)

-- neither the root nor a pipeline sees it
pub active_keep : (r : ℕ) (k : Sink) (b1 : ℕ) (s t : System) (y : Local) (a p : ℕ) → a < r → OnlyReads a p s t → SinkAlive k t
    → (al : Active r k b1 s y) → (a2 : Active r k b1 t y) × (a2.table ≡ al.table)
active_keep r k b1 s t y a p lt fo sk al = (
  record {
    process = al.process;
    found = fo.finds r (λ z. absurd (omega (arith, z, lt))) ∙ al.found;
    above = λ q h. fo.finds q (λ z. absurd (omega (arith, z, lt, h))) ∙ al.above q h;
    once = fo.once al.once;
    disciplined = al.disciplined;
    table = al.table;
    simulates = same_handles host_input (sink_handle k) al.table s t al.process y fo.handles fo.files al.simulates;
    in0 = ap (λ os. nth os 0) fo.handles ∙ al.in0;
    out0 = ap (λ os. nth os b1) fo.handles ∙ al.out0;
    input = fo.input ∙ al.input;
    fresh = λ q h. ap (λ z. exit_status z q) fo.exited ∙ al.fresh q (omega (arith, h, fo.next1));
    not_exited = ap (λ z. exit_status z r) fo.exited ∙ al.not_exited;
    exists = omega (arith, al.exists, fo.next1);
    sink_low = al.sink_low;
    sink_alive = sk;
  },
  refl,
)

pub phase_keep : (g : Setup) (s t : System) (D : ℕ → Member) (a p : ℕ) → a < g.root_pid → ((j : ℕ) → g.pipe_of j ≡ p → ⊥) → OnlyReads a p s t
    → received g.sink t ≡ received g.sink s → SinkAlive g.sink t → Phase g s D → Phase g t D
phase_keep g s t D a p lt np fo sn sk ph = record {
  members = λ j h. each1 j (D j).mode (ph.members j h);
  in_range = λ j h b i e. omega (arith, ph.in_range j h b i e, ap length fo.handles);
  disjoint = λ j k h l n b c i x z. fx i (ph.disjoint j k h l n b c i x z);
  traces = ph.traces;
  first_reads = ph.first_reads;
  contents = λ j h. let z = ph.contents j h in (z.0, fo.pipes (g.pipe_of j) (np j) ∙ z.1, z.2);
  paper = λ j h. sn ∙ ph.paper j h;
  sink_alive = sk;
  base = λ j h. let z = ph.base j h in (
    ap (λ os. nth os (g.stdin_handle j)) fo.handles ∙ z.0,
    ap (λ os. nth os (g.stdout_handle j)) fo.handles ∙ z.1,
  );
  known = λ q w e. kn q w e (equal_or_not q a);
  rooted = fo.finds g.root_pid (λ z. absurd (omega (arith, z, lt))) ∙ ph.rooted;
  root_simulates = same_handles host_input (sink_handle g.sink) g.root_table s t g.root g.root_local fo.handles fo.files
      ph.root_simulates;
  root_disjoint = λ j h b c i x z. fx i (ph.root_disjoint j h b c i x z);
  input = fo.input ∙ ph.input;
  root_not_exited = ap (λ z. exit_status z g.root_pid) fo.exited ∙ ph.root_not_exited;
  once = fo.once ph.once;
  next_is = fo.next1 ∙ ph.next_is;
  fresh = λ q h. ap (λ z. exit_status z q) fo.exited ∙ ph.fresh q h;
}
  where
    fx : (i : ℕ) → Fixed (nth s.handles i) → Fixed (nth t.handles i)
    fx i h = subst (λ os. Fixed (nth os i)) (sym fo.handles) h

    fn : (j : ℕ) → find_process t.processes (g.first_pid + j) ≡ find_process s.processes (g.first_pid + j)
    fn j = fo.finds (g.first_pid + j) (λ z. absurd (omega (arith, z, lt, g.root_before)))

    go : (q : ℕ) → exit_status t.exited q ≡ exit_status s.exited q
    go q = ap (λ z. exit_status z q) fo.exited

    each1 : (j : ℕ) (mo : Mode) → MemberState g mo s j (D j) → MemberState g mo t j (D j)
    each1 j running x = (
      x.0,
      fn j ∙ x.1,
      x.2,
      same_handles (g.in0 j) (g.out0 j) (D j).table s t x.0 (D j).local fo.handles fo.files
          x.3,
      go (g.first_pid + j) ∙ x.4,
    )
    each1 j exited x = (fn j ∙ x.0, (x.1.0, x.1.1, go (g.first_pid + j) ∙ x.1.2))
    each1 j killed x = (fn j ∙ x.0, x.1, fn (suc j) ∙ x.2)

    kn : (q : ℕ) (w : Process) → find_process t.processes q ≡ some w → (q ≡ a) ⊎ (q ≡ a → ⊥) → (q < g.first_pid) ⊎ ((j : ℕ) × (j < g.count) × (q ≡ g.first_pid + j))
    kn q w e (inl z) = inl (omega (arith, z, lt, g.root_before))
    kn q w e (inr z) = ph.known q w (sym (fo.finds q z) ∙ e)
