-- Commands as trees.
use Rattle.std.specs.Prelude.{Bool, List, ℕ}
use Rattle.syntax.specs.Base.{Name}

-- < reads a file, > writes a file that is empty first, >> writes behind what is there, << reads the word itself
pub data RedirectKind : Type 0 where
  input output append here : RedirectKind

mutual
  -- a part of a word: bytes; what a parameter stands for ($x, $1, $#, $?); what a list of commands prints, $( ).
  -- The flag says whether it stands in quotes
  pub data WordPart : Type 0 where
    literal : Bool → List ℕ → WordPart
    parameter : Bool → Name → WordPart
    substitution : Bool → CommandList → WordPart

  pub data Word : Type 0 where
    no_parts : Word
    and_part : WordPart → Word → Word

  pub data Words : Type 0 where
    no_words : Words
    and_word : Word → Words → Words

  -- name=word, in front of a command or alone
  pub data Assignments : Type 0 where
    no_assignments : Assignments
    assign : Name → Word → Assignments → Assignments

  pub data Redirects : Type 0 where
    no_redirects : Redirects
    redirect : RedirectKind → Word → Redirects → Redirects

  pub data Command : Type 0 where
    -- name=word .. word .. < word ..
    simple : Assignments → Words → Redirects → Command
    -- { list }
    group : CommandList → Redirects → Command
    -- ( list )
    subshell : CommandList → Redirects → Command
    -- if list then list else-part
    if : CommandList → CommandList → ElsePart → Redirects → Command
    -- while list do list done
    while : CommandList → CommandList → Redirects → Command
    -- for name in words do list done
    for : Name → Words → CommandList → Redirects → Command
    -- case word in arms esac
    case : Word → Arms → Redirects → Command
    -- name() { list }
    function : Name → CommandList → Command

  -- an else that is there may have an empty list; elif is an else whose list is one if
  pub data ElsePart : Type 0 where
    no_else : ElsePart
    else : CommandList → ElsePart

  -- when pattern ; list ;;
  pub data Arms : Type 0 where
    no_arms : Arms
    arm : Word → CommandList → Arms → Arms

  -- commands with | between them
  pub data Pipeline : Type 0 where
    single : Command → Pipeline
    piped : Command → Pipeline → Pipeline

  -- pipelines joined from the left by && (true) and || (false).
  -- The flag in front of each pipeline says whether ! stands before it
  pub data AndOr : Type 0 where
    first : Bool → Pipeline → AndOr
    joined : AndOr → Bool → Bool → Pipeline → AndOr

  -- one after the other; the flag says whether & stands behind: in the background
  pub data CommandList : Type 0 where
    end : CommandList
    next : AndOr → Bool → CommandList → CommandList
