-- The names that most proofs here cite, passed on from one place. Declares nothing.
pub use Rattle.std.proofs.Common.{◌≡◌, ◌<◌, ◌≤◌, ◌+◌, ◌-◌, ℕ, zero, suc, Bool, true, false, List, ◌∷◌, length, drop, length-drop, take, Option, None, Some, Result, Ok, Err, refl, arith, ap, subst, ◌++◌, [], map, filter, sym, ◌∙◌}
pub use Rattle.std.proofs.Common.{append_assoc, ◌^◌, get_or, add-one, cond, append-nil, true≢false, set, inl, inr, eqb-true, eq-eqb, ◌*◌, length-append, reverse, rules}
pub use Rattle.std.specs.Prelude.{IfOk, IfSome, ◌==◌, ◌&&◌, nat_le, nat_lt, if◌then◌else◌, ◌||◌, not, find, slice_index_or, ◌/◌, ◌%◌, All, option_and_then, is_some}
pub use Rattle.address_tables.specs.Tables.{value_from, value_among}
pub use Rattle.address_tables.specs.declared.entry.AddressRange.{AddressRange}
unfoldable pub use Rattle.debug_info.specs.Abbreviations.{declaration_at, specification_at}
pub use Rattle.debug_info.specs.Abbreviations.{abbreviation_of, end_or, specifications_end, where_code}
pub use Rattle.debug_info.specs.Attributes.{value_behind, values_from, attributes_by, attributes_of, or_named, with_value, first_of, attributes_at}
unfoldable pub use Rattle.debug_info.specs.Contents.{spans_of}
pub use Rattle.debug_info.specs.Contents.{entries_or_none, fault_at, faults_at, fault_list, faults_given, and_behind, spans_from, IsSpan}
pub use Rattle.debug_info.specs.Entries.{entries_from, entry_at, entry_list, level_behind, IsLevel, in_front, with_others}
unfoldable pub use Rattle.debug_info.specs.Forms.{value_at, value_by}
pub use Rattle.debug_info.specs.Functions.{function_list, functions_in, functions_read, functions_given, function_at}
pub use Rattle.debug_info.specs.Index.{AreRuns, IsRun, behind_last, bit_of, extended, lone_run, or_flag, packed, unpacked, with_flag, with_flags, with_values}
pub use Rattle.debug_info.specs.Info.{Info, info_of, scope, variables_at, variables_by}
pub use Rattle.debug_info.specs.Kept.{seen}
pub use Rattle.debug_info.specs.Marks.{AreMarks, AreReread, entry_in, mark_of, reread, all_reread, is_entered_mark, is_in_unit, is_outer, is_own_mark, outer_marks, reread_in, entries_in}
pub use Rattle.debug_info.specs.Order.{AreTurns, has_turn, is_turn}
pub use Rattle.debug_info.specs.Reading.{◌>>=◌, Read, found, read}
pub use Rattle.debug_info.specs.Rising.{IsCount, RisesFrom}
pub use Rattle.debug_info.specs.Scope.{Variable, by_depth, is_modifier, kind_of, own_kind, type_entry, inner, is_entered, is_open, is_own, own_among, from_offset, is_block, is_fixed, is_unit, is_unit_entry, is_unit_variable, is_variable, is_within, own_entries, parent, unit_variables}
pub use Rattle.debug_info.specs.Scope.{variable_of, variables_in}
pub use Rattle.debug_info.specs.Shown.{is_below, shut_by, given, reading_shown, shown_variables, seen_texts}
pub use Rattle.debug_info.specs.Tables.{AreKept, AreListed, IsBefore, LeadTo, code_in, declaration_in, declared, end_of, is_code, IsTable}
pub use Rattle.debug_info.specs.TextLengths.{AreLast}
pub use Rattle.debug_info.specs.Units.{unit_end}
pub use Rattle.debug_info.specs.declared.abbreviation.Declaration.{Declaration}
pub use Rattle.debug_info.specs.declared.abbreviation.Specification.{Specification}
pub use Rattle.debug_info.specs.declared.attribute.Attributes.{Attributes}
pub use Rattle.debug_info.specs.declared.entry.Entry.{Entry}
pub use Rattle.debug_info.specs.declared.entry.Kind.{Kind}
pub use Rattle.debug_info.specs.declared.fault.InfoFault.{InfoFault}
pub use Rattle.debug_info.specs.declared.fault.UnitFault.{UnitFault}
pub use Rattle.debug_info.specs.declared.form.Value.{Value}
pub use Rattle.debug_info.specs.declared.header.Span.{Span}
pub use Rattle.debug_info.specs.declared.index.Flags.{Flags}
pub use Rattle.debug_info.specs.declared.index.Run.{Run}
pub use Rattle.debug_info.specs.declared.mark.Mark.{Mark}
pub use Rattle.debug_info.specs.declared.order.Turn.{Turn}
unfoldable pub use Rattle.leb_read.specs.Leb.{leb_at, leb_length, number_at, uleb_at, behind_run}
pub use Rattle.leb_read.specs.Leb.{is_wide, is_text_byte, text_from, IsBehind, IsReadTo}
pub use Rattle.leb_read.specs.Reading.{read_map}
pub use Rattle.std.proofs.Math.Bool.{and-false, or-false, or-true, and_assoc}
pub use Rattle.std.proofs.Math.Nat.{eq-or-lt_of_le}
pub use Rattle.std.proofs.Math.Seq.{drop-cons, get_or-append_seam, drop-length}
pub use Rattle.std.proofs.lemmas.Bool.{eqb-false, or_left}
pub use Rattle.std.proofs.lemmas.Bool.Decides.{nat_tests}
pub use Rattle.std.proofs.lemmas.Grind.{flat_map-append}
pub use Rattle.std.proofs.lemmas.List.{map-append, drop_all, get_or-set_other, get_or-set_same, get_or_default, get_or_append_left, reverse-append, get_or-map, length-map, take_more, drop-map, take_all, length-set}
pub use Rattle.std.proofs.lemmas.List.Elements.{All-nil, All-push, All-same, All-weaker, filter-append}
pub use Rattle.std.proofs.lemmas.List.Folds.{flat_map-map, list_any-append, list_any_more}
pub use Rattle.std.proofs.lemmas.List.Sorted.{All-permutation, list_any-IsPermutation, IsPartitionPoint-from_clause, IsPartitionedBy-ltb}
pub use Rattle.std.proofs.lemmas.List.Sums.{take_while-cons}
pub use Rattle.std.specs.BTreeMap.{BTreeMap, get}
pub use Rattle.std.specs.Cmp.{unsigned_ties}
pub use Rattle.std.specs.List.{prefix_len, flat_map, take_while}
pub use Rattle.std.specs.List.Sorted.{IsPermutation, IsNonDecreasingBy}
pub use Rattle.std.specs.Ordering.{nat_cmp}
pub use Rattle.std.specs.Vec.{vec_len}
