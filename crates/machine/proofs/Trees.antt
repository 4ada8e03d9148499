-- Each decision is a step of the process that it stands for: trees and frames.
use Rattle.std.proofs.Common.{◌≡◌, ℕ, ◌+◌, ◌<◌, Bool, true, false, eqb, List, ◌∷◌, Some, refl, arith}
use mathlib.Core.Option.{some, none}
use Rattle.syntax.specs.Tree.{Words, no_words, and_word, no_assignments, assign, no_redirects, redirect, Command, simple, group, subshell, if, while, for, case, function, no_else, else, Pipeline, single, piped, AndOr, first, joined, CommandList, end, next}
use Rattle.code.specs.Layout.{flag}
use Rattle.code.specs.Code.{ListCode, AndOrCode, PipelineCode, CommandCode, WordsCode}
use Rattle.meaning.specs.System.{to_invoke, at_list, at_and_or, at_pipeline, at_command, at_words, at_status, at_unwind, Frame, f_list, f_and_or, f_not, f_if, f_condition, f_body}
use Rattle.meaning.specs.Words.{expand_words}
use Rattle.machine.specs.declared.process.Unwind.{Unwind as Unwind'}
use Rattle.machine.specs.declared.process.Unwind.TheVariants.{Break, Continue, Return, Exit}
use Rattle.machine.specs.declared.process.Control.TheVariants.{AtWords, AtUnwind}
use Rattle.machine.specs.declared.process.Process.{Process as Process'}
use Rattle.machine.specs.declared.frames.Frame.{Frame as Frame'}
use Rattle.code.specs.Cells.{said}
use Rattle.words.specs.Encoding.{at}
use Rattle.machine.specs.Decide.{plainly, list_next, and_or_next, pipeline_next, words_start, command_next, removed, status_next, unwind_next}
use Rattle.machine.specs.Represent.{Rest, abstract, unwind_is, r_list, r_and_or, r_pipeline, r_command, r_words, r_status, r_unwind, FrameRep, r_f_list, r_f_handles, r_f_and_or, r_f_not, r_f_if, r_f_condition, r_f_body}
use Rattle.machine.specs.Promises.{StepsTo, no_background, no_pipe, no_command, Leads, Backs}

-- an address is not 0
pub positive : (a : ℕ) → 0 < a → eqb a 0 ≡ false
positive a h = grind arith

and_or_positive : (text code : List ℕ) (a : ℕ) (x : AndOr) → AndOrCode text code a x → 0 < a
and_or_positive text code a (first n p) h = h.0
and_or_positive text code a (joined x b n p) h = h.0

pipeline_positive : (text code : List ℕ) (a : ℕ) (p : Pipeline) → PipelineCode text code a p → 0 < a
pipeline_positive text code a (single c) h = h.0
pipeline_positive text code a (piped c p) h = h.0

-- a flag read off the code
said_flag : (b : Bool) → said (flag b) ≡ b
said_flag true = refl
said_flag false = refl

pub list_leads : (text code : List ℕ) (number : ℕ → ℕ) (a n : ℕ) (l : CommandList) → n < 256 → ListCode text code a l → Leads text code number (at_list l) n (list_next code a n)
list_leads text code number a n end z h = rw h (record { c' = at_status n; κ' = none; steps_to = λ r k i o s. refl; now = r_status refl refl refl z; keeps = tt })
list_leads text code number a n (next x false l) z h = rw (positive a h.0, h.1) (record { c' = at_and_or x; κ' = some (f_list l); steps_to = λ r k i o s. refl; now = r_and_or refl refl refl h.2; keeps = r_f_list h.3 })
list_leads text code number a n (next x true l) z h = rw (positive a h.0, h.1) no_background

pub and_or_leads : (text code : List ℕ) (number : ℕ → ℕ) (a n : ℕ) (x : AndOr) → AndOrCode text code a x → Leads text code number (at_and_or x) n (Some (and_or_next code a))
and_or_leads text code number a n (first b p) h = rw (h.1, h.2, said_flag b) (record { c' = at_pipeline b p; κ' = none; steps_to = λ r k i o s. refl; now = r_pipeline refl refl refl h.3; keeps = tt })
and_or_leads text code number a n (joined x b m p) h = rw (positive (at code a) (and_or_positive text code (at code a) x h.1)) (record { c' = at_and_or x; κ' = some (f_and_or b m p); steps_to = λ r k i o s. refl; now = r_and_or refl refl refl h.1; keeps = r_f_and_or h.2 h.3 h.4 })

pub pipeline_leads : (text code : List ℕ) (number : ℕ → ℕ) (a n : ℕ) (b : Bool) (p : Pipeline) → PipelineCode text code a p → Leads text code number (at_pipeline b p) n (pipeline_next code a b)
pipeline_leads text code number a n true (single c) h = rw h.2 (record { c' = at_command c; κ' = some f_not; steps_to = λ r k i o s. refl; now = r_command refl refl refl h.1; keeps = r_f_not })
pipeline_leads text code number a n false (single c) h = rw h.2 (record { c' = at_command c; κ' = none; steps_to = λ r k i o s. refl; now = r_command refl refl refl h.1; keeps = tt })
pipeline_leads text code number a n b (piped c p) h = rw (positive (at code a) (pipeline_positive text code (at code a) p h.2)) no_pipe

words_leads : (text code : List ℕ) (number : ℕ → ℕ) (a n : ℕ) (ws : Words) → WordsCode text code a ws → Leads text code number (at_command (simple no_assignments ws no_redirects)) n (Some (plainly (AtWords (words_start code a))))
words_leads text code number a n no_words h = rw h (record { c' = at_words (expand_words no_words true) (to_invoke no_redirects); κ' = none; steps_to = λ r k i o s. refl; now = r_words refl refl refl refl tt refl refl; keeps = tt })
words_leads text code number a n (and_word w ws) h = rw (positive a h.0) (record { c' = at_words (expand_words (and_word w ws) true) (to_invoke no_redirects); κ' = none; steps_to = λ r k i o s. refl; now = r_words refl refl refl refl tt h.2 h.1; keeps = tt })

pub command_leads : (text code : List ℕ) (number : ℕ → ℕ) (a n : ℕ) (c : Command) → CommandCode text code a c → Leads text code number (at_command c) n (command_next code a)
command_leads text code number a n (simple no_assignments ws no_redirects) h = rw (h.0, h.1, h.3) (words_leads text code number (at code (a + 3)) n ws h.2)
command_leads text code number a n (simple no_assignments ws (redirect k w ts)) h = rw (h.0, h.1, positive (at code (a + 4)) h.3.0) (no_command refl)
command_leads text code number a n (simple (assign x v ss) ws ts) h = rw (h.0, positive (at code (a + 2)) h.1.0) (no_command refl)
command_leads text code number a n (group l no_redirects) h = rw (h.0, h.2) (record { c' = at_list l; κ' = none; steps_to = λ r k i o s. refl; now = r_list refl refl refl h.1; keeps = tt })
command_leads text code number a n (group l (redirect k w ts)) h = rw (h.0, positive (at code (a + 3)) h.2.0) (no_command refl)
command_leads text code number a n (if x y e no_redirects) h = rw (h.0, h.4) (record { c' = at_list x; κ' = some (f_if y e); steps_to = λ r k i o s. refl; now = r_list refl refl refl h.1; keeps = r_f_if h.2 h.3 })
command_leads text code number a n (if x y e (redirect k w ts)) h = rw (h.0, positive (at code (a + 5)) h.4.0) (no_command refl)
command_leads text code number a n (while x y no_redirects) h = rw (h.0, h.3) (record { c' = at_list x; κ' = some (f_condition x y); steps_to = λ r k i o s. refl; now = r_list refl refl refl h.1; keeps = r_f_condition h.1 h.2 })
command_leads text code number a n (while x y (redirect k w ts)) h = rw (h.0, positive (at code (a + 4)) h.3.0) (no_command refl)
command_leads text code number a n (subshell l ts) h = rw h.0 (no_command refl)
command_leads text code number a n (for x ws l ts) h = rw h.0 (no_command refl)
command_leads text code number a n (case w is ts) h = rw h.0 (no_command refl)
command_leads text code number a n (function x l) h = rw h.0 (no_command refl)

-- a command is done with status n
abbrev pub with_status : Process' → ℕ → Process'
with_status p n = record { control = p.control; status = n; stdin = p.stdin; stdout = p.stdout; base = p.base }

pub status_backs : {text code : List ℕ} {number : ℕ → ℕ} {f : Frame'} {κ : Frame} (p : Process') (n : ℕ) (b : Bool) → n < 256 → eqb n 0 ≡ b → FrameRep text code number f κ → Backs text code number (at_status n) κ p (with_status p n) (status_next code (with_status p n) f n)
status_backs p n b z e (r_f_list {l = end} h) = rw h (record { c' = at_status n; κ' = none; steps_to = λ r ks s. refl; now = r_status refl refl refl z; keeps = tt; base = refl; status = refl })
status_backs p n b z e (r_f_list {x = x} {l = next a d l} h) = rw (positive x h.0) (record { c' = at_list (next a d l); κ' = none; steps_to = λ r ks s. refl; now = r_list refl refl refl h; keeps = tt; base = refl; status = refl })
status_backs p n b z e (r_f_handles i o) = record { c' = at_status n; κ' = none; steps_to = λ r ks s. refl; now = r_status refl refl refl z; keeps = tt; base = refl; status = refl }
status_backs p n true z e (r_f_and_or {b = true} {n = m} {p = q} i j h) = rw (i, e, j, said_flag m) (record { c' = at_pipeline m q; κ' = none; steps_to = λ r ks s. rw e; now = r_pipeline refl refl refl h; keeps = tt; base = refl; status = refl })
status_backs p n false z e (r_f_and_or {b = true} i j h) = rw (i, e) (record { c' = at_status n; κ' = none; steps_to = λ r ks s. rw e; now = r_status refl refl refl z; keeps = tt; base = refl; status = refl })
status_backs p n true z e (r_f_and_or {b = false} i j h) = rw (i, e) (record { c' = at_status n; κ' = none; steps_to = λ r ks s. rw e; now = r_status refl refl refl z; keeps = tt; base = refl; status = refl })
status_backs p n false z e (r_f_and_or {b = false} {n = m} {p = q} i j h) = rw (i, e, j, said_flag m) (record { c' = at_pipeline m q; κ' = none; steps_to = λ r ks s. rw e; now = r_pipeline refl refl refl h; keeps = tt; base = refl; status = refl })
status_backs p n true z e r_f_not = rw e (record { c' = at_status 1; κ' = none; steps_to = λ r ks s. rw e; now = r_status {n = 1} refl refl refl (omega arith); keeps = tt; base = refl; status = refl })
status_backs p n false z e r_f_not = rw e (record { c' = at_status 0; κ' = none; steps_to = λ r ks s. rw e; now = r_status {n = 0} refl refl refl (omega arith); keeps = tt; base = refl; status = refl })
status_backs p n true z e (r_f_if {a = a} h j) = rw e (record { c' = at_list a; κ' = none; steps_to = λ r ks s. rw e; now = r_list refl refl refl h; keeps = tt; base = refl; status = refl })
status_backs p n false z e (r_f_if {e = no_else} h j) = rw (e, j) (record { c' = at_status 0; κ' = none; steps_to = λ r ks s. rw e; now = r_status {n = 0} refl refl refl (omega arith); keeps = tt; base = refl; status = refl })
status_backs {code = code} p n false z e (r_f_if {x = x} {e = else l} h j) = rw (e, positive (at code (x + 4)) j.0) (record { c' = at_list l; κ' = none; steps_to = λ r ks s. rw e; now = r_list refl refl refl j.1; keeps = tt; base = refl; status = refl })
status_backs p n true z e (r_f_condition {a = a} {b = d} h j) = rw e (record { c' = at_list d; κ' = some (f_body a d); steps_to = λ r ks s. rw e; now = r_list refl refl refl j; keeps = r_f_body h j; base = refl; status = refl })
status_backs p n false z e (r_f_condition h j) = rw e (record { c' = at_status 0; κ' = none; steps_to = λ r ks s. rw e; now = r_status {n = 0} refl refl refl (omega arith); keeps = tt; base = refl; status = refl })
status_backs p n b z e (r_f_body {a = a} {b = d} h j) = record { c' = at_list a; κ' = some (f_condition a d); steps_to = λ r ks s. refl; now = r_list refl refl refl h; keeps = r_f_condition h j; base = refl; status = refl }

-- break, continue, return and exit go outward
outward : (text code : List ℕ) (number : ℕ → ℕ) (p : Process') (n : ℕ) (u : Unwind') (κ : Frame) → n < 256 → ((r : Rest) (ks : List Frame) → StepsTo (abstract number p r (at_unwind (unwind_is u) n) (κ ∷ ks)) (abstract number p r (at_unwind (unwind_is u) n) ks)) → Backs text code number (at_unwind (unwind_is u) n) κ p p (removed p (AtUnwind u n))
outward text code number p n u κ z h = record { c' = at_unwind (unwind_is u) n; κ' = none; steps_to = h; now = r_unwind refl refl refl z; keeps = tt; base = refl; status = refl }

pub unwind_backs : {text code : List ℕ} {number : ℕ → ℕ} {f : Frame'} {κ : Frame} (p : Process') (n : ℕ) (u : Unwind') → n < 256 → FrameRep text code number f κ → Backs text code number (at_unwind (unwind_is u) n) κ p p (unwind_next code p u f n)
unwind_backs {text} {code} {number} p n u z (r_f_list {l = l} h) = outward text code number p n u (f_list l) z (λ r ks s. refl)
unwind_backs p n u z (r_f_handles i o) = record { c' = at_unwind (unwind_is u) n; κ' = none; steps_to = λ r ks s. refl; now = r_unwind refl refl refl z; keeps = tt; base = refl; status = refl }
unwind_backs {text} {code} {number} p n u z (r_f_and_or {b = b} {n = m} {p = q} i j h) = outward text code number p n u (f_and_or b m q) z (λ r ks s. refl)
unwind_backs {text} {code} {number} p n u z r_f_not = outward text code number p n u f_not z (λ r ks s. refl)
unwind_backs {text} {code} {number} p n u z (r_f_if {a = a} {e = b} h j) = outward text code number p n u (f_if a b) z (λ r ks s. refl)
unwind_backs p n Break z (r_f_condition h j) = record { c' = at_status 0; κ' = none; steps_to = λ r ks s. refl; now = r_status {n = 0} refl refl refl (omega arith); keeps = tt; base = refl; status = refl }
unwind_backs p n Continue z (r_f_condition {a = a} {b = b} h j) = record { c' = at_list a; κ' = some (f_condition a b); steps_to = λ r ks s. refl; now = r_list refl refl refl h; keeps = r_f_condition h j; base = refl; status = refl }
unwind_backs {text} {code} {number} p n Return z (r_f_condition {a = a} {b = b} h j) = outward text code number p n Return (f_condition a b) z (λ r ks s. refl)
unwind_backs {text} {code} {number} p n Exit z (r_f_condition {a = a} {b = b} h j) = outward text code number p n Exit (f_condition a b) z (λ r ks s. refl)
unwind_backs p n Break z (r_f_body h j) = record { c' = at_status 0; κ' = none; steps_to = λ r ks s. refl; now = r_status {n = 0} refl refl refl (omega arith); keeps = tt; base = refl; status = refl }
unwind_backs p n Continue z (r_f_body {a = a} {b = b} h j) = record { c' = at_list a; κ' = some (f_condition a b); steps_to = λ r ks s. refl; now = r_list refl refl refl h; keeps = r_f_condition h j; base = refl; status = refl }
unwind_backs {text} {code} {number} p n Return z (r_f_body {a = a} {b = b} h j) = outward text code number p n Return (f_body a b) z (λ r ks s. refl)
unwind_backs {text} {code} {number} p n Exit z (r_f_body {a = a} {b = b} h j) = outward text code number p n Exit (f_body a b) z (λ r ks s. refl)
