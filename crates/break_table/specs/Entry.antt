-- A breakpoint as a plain record.
use Rattle.std.specs.Prelude.{ℕ, Bool, List, Option}
use Rattle.std.specs.Option.{option_map}
use Rattle.cond_expr.specs.Term.{Term}
use Rattle.cond_expr.specs.Condition.{text_of, tree_of}
use Rattle.cond_expr.specs.declared.expr.Expr.{Expr}
use Rattle.break_table.specs.declared.entry.Spec.{Spec}
use Rattle.break_table.specs.declared.entry.BreakEntry.{BreakEntry}

-- a condition: its text and the tree that the text spells
pub record Condition : Type 0 where
  pub text : List ℕ
  pub tree : Term

pub record Entry : Type 0 where
  pub number : ℕ
  -- of the instruction that it stands at
  pub address : ℕ
  -- the text by which the address was given
  pub location : List ℕ
  -- it is deleted where it stops a hart
  pub temporary : Bool
  pub enabled : Bool
  -- how many arrivals are only counted
  pub ignore : ℕ
  pub condition : Option Condition
  -- the one thread that it is for, counted from 1
  pub thread : Option ℕ
  -- how many arrivals it counted or stopped
  pub times : ℕ

abbrev pub condition_of : Expr → Condition
condition_of e = record { text = text_of e; tree = tree_of e }

abbrev pub entry_of : BreakEntry → Entry
entry_of b = record {
  number = b.number;
  address = b.address;
  location = b.location;
  temporary = b.temporary;
  enabled = b.enabled;
  ignore = b.ignore;
  condition = option_map condition_of b.condition;
  thread = b.thread;
  times = b.times;
}

-- what is asked of a new breakpoint
pub record Asked : Type 0 where
  pub address : ℕ
  pub location : List ℕ
  pub temporary : Bool
  pub enabled : Bool
  pub ignore : ℕ
  pub condition : Option Condition
  pub thread : Option ℕ

abbrev pub asked_of : Spec → Asked
asked_of s = record {
  address = s.address;
  location = s.location;
  temporary = s.temporary;
  enabled = s.enabled;
  ignore = s.ignore;
  condition = option_map condition_of s.condition;
  thread = s.thread;
}

-- the entry that is made of what is asked
abbrev pub new_entry : ℕ → Asked → Entry
new_entry number a = record {
  number = number;
  address = a.address;
  location = a.location;
  temporary = a.temporary;
  enabled = a.enabled;
  ignore = a.ignore;
  condition = a.condition;
  thread = a.thread;
  times = 0;
}
