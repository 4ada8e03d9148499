-- What is within is not beyond.
use mathlib.Core.Path.{◌≡◌, refl, sym, ◌∙◌, ap}
use mathlib.Core.Bool.{Bool, true, false}
use mathlib.Core.List.{List, [], ◌∷◌}
use Rattle.syntax.specs.Base.{pick, Name, same}
use Rattle.syntax.specs.Tree.{no_assignments, assign, no_redirects, redirect, Command, simple, group, subshell, if, while, for, case, function}
use Rattle.meaning.specs.System.{QuotedByte, Control}
use Rattle.meaning.specs.Words.{close_word}
use Rattle.meaning.specs.Step.{name_echo, name_cat, name_head, name_wc, name_grep, name_seq, name_rm, name_yes, name_true, name_false, name_test, name_read, name_exit, name_return, name_break, name_continue, name_shift, name_wait, initial}
use Rattle.machine.specs.declared.names.BuiltinName.{BuiltinName}
use Rattle.words.specs.Encoding.{any_pattern}
use Rattle.machine.specs.Commands.{name_at, lacks}
use Rattle.machine.specs.Promises.{beyond_command, Beyond, no_background, no_pipe, no_command, no_parameter, no_substitution, no_pattern, no_builtin}
use Rattle.slice.specs.Slice.{left_out}
use Rattle.within.specs.Statements.{NeverBeyond}
use Rattle.within.proofs.Covered.{CoveredCommand, no_true, list_covered}
use Rattle.within.proofs.Expands.{Plain, or_both, plain_end}
use Rattle.within.proofs.Steps.{WithinControl}
use Rattle.within.proofs.Moves.{moves_alone, found_within}

command_not_beyond : (c : Command) → CoveredCommand c → beyond_command c ≡ true → ⊥
command_not_beyond (simple no_assignments ws no_redirects) h e = no_true e
command_not_beyond (simple no_assignments ws (redirect k w ts)) h e = h
command_not_beyond (simple (assign x w ss) ws ts) h e = h
command_not_beyond (group l no_redirects) h e = no_true e
command_not_beyond (group l (redirect k w ts)) h e = h.0
command_not_beyond (subshell l ts) h e = h
command_not_beyond (if a b c no_redirects) h e = no_true e
command_not_beyond (if a b c (redirect k w ts)) h e = h.0
command_not_beyond (while a b no_redirects) h e = no_true e
command_not_beyond (while a b (redirect k w ts)) h e = h.0
command_not_beyond (for x ws l ts) h e = h
command_not_beyond (case w is ts) h e = h
command_not_beyond (function x l) h e = h

no_pattern_in : (ds : List (List QuotedByte)) → Plain ds → any_pattern ds ≡ false
no_pattern_in [] p = refl
no_pattern_in (d ∷ ds) p = rw p.0 (no_pattern_in ds p.1)

-- a name that is there or another that is there; a name that is not
there : (b : Bool) (m n : BuiltinName) → lacks m ≡ false → lacks n ≡ false → lacks (pick b m n) ≡ false
there true m n h k = h
there false m n h k = k

other : (b : Bool) (m n : BuiltinName) → b ≡ false → lacks n ≡ false → lacks (pick b m n) ≡ false
other b m n e k = rw e k

-- what is not left out is there
runs_there : (x : Name) → left_out x ≡ false → lacks (name_at x) ≡ false
runs_there x h =
    let cat = or_both (same x name_cat) _ h in
    let head = or_both (same x name_head) _ cat.1 in
    let wc = or_both (same x name_wc) _ head.1 in
    let grep = or_both (same x name_grep) _ wc.1 in
    let rm = or_both (same x name_rm) _ grep.1 in
    let test = or_both (same x name_test) _ rm.1 in
    let read = or_both (same x name_read) _ test.1 in
    let return = or_both (same x name_return) _ read.1 in
    let shift = or_both (same x name_shift) (same x name_wait) return.1 in
    there (same x name_echo) _ _ refl
    (other (same x name_cat) _ _ cat.0
    (other (same x name_head) _ _ head.0
    (other (same x name_wc) _ _ wc.0
    (other (same x name_grep) _ _ grep.0
    (there (same x name_seq) _ _ refl
    (other (same x name_rm) _ _ rm.0
    (there (same x name_yes) _ _ refl
    (there (same x name_true) _ _ refl
    (there (same x name_false) _ _ refl
    (other (same x name_test) _ _ test.0
    (other (same x name_read) _ _ read.0
    (there (same x name_exit) _ _ refl
    (other (same x name_return) _ _ return.0
    (there (same x name_break) _ _ refl
    (there (same x name_continue) _ _ refl
    (other (same x name_shift) _ _ shift.0
    (other (same x name_wait) _ _ shift.1 refl)))))))))))))))))

not_beyond : {c : Control} → Beyond c → WithinControl c → ⊥
not_beyond no_background h = h
not_beyond no_pipe h = h
not_beyond (no_command {c = c} e) h = command_not_beyond c h e
not_beyond no_parameter h = h.1.parts
not_beyond no_substitution h = h.1.parts
not_beyond (no_pattern {o = o} {ds = ds} e) h = no_true (sym (no_pattern_in (close_word o ds) (plain_end ds o h.1)) ∙ e)
not_beyond (no_builtin {x = x} n e k) h = no_true (sym (runs_there x h) ∙ ap lacks e ∙ k)

pub never_beyond : NeverBeyond
never_beyond l i ms s w g c e f =
    let h = found_within s.processes 0 w (moves_alone ms (initial l i []) s (refl, (list_covered l g c, tt, refl, refl)) e) f in
    ((λ b. not_beyond b h.0), h.3)
