-- What a session is made of goes to another thread: what each part of it holds may (needed of what stands under a lock).
use denote.RattleType.{RattleType}
use Rattle.dbg_traits.specs.declared.world.World as world
use Rattle.session_parts.specs.contracts.outside.Outside as outside
use denote.Param.Send.{IsSend, sendable}
use denote.Hole.FixSend.{Sends, fix_send}
use denote.Hole.{as_row}
use denote.Param.SendFields.{variants_send}
use denote.Struct.Field.{u32-field}
use Rattle.std.proofs.Crossing.{Box-send, crosses}
use Rattle.cond_expr.specs.contracts.token.Leaf as leaf
use Rattle.cond_expr.specs.contracts.token.Prefix as prefix
use Rattle.cond_expr.specs.contracts.token.Binary as binary
use Rattle.std.proofs.MapsCrossing as maps
use Rattle.cond_expr.specs.declared.tree.Node.TheBlock as block
use Rattle.cond_expr.specs.contracts.tree.Node.TheKnot as knot
use Rattle.cond_expr.specs.contracts.tree.Node as node
use Rattle.rv_decode.specs.contracts.instr.Instr as instr
use Rattle.rv_decode.specs.contracts.instr.Reg as reg
use Rattle.rv_decode.specs.contracts.instr.LoadOp as loadop
use Rattle.rv_decode.specs.contracts.instr.AmoOp as amoop
use Rattle.rv_exec.specs.contracts.target.Target as target
use Rattle.rv_exec.specs.contracts.operation.Operation as operation
use Rattle.text_words.specs.contracts.fetch.Fetch as fetch
use Rattle.text_words.specs.contracts.text.TextWords as textwords
use Rattle.step_plans.specs.contracts.plan.Plan as plan
use Rattle.engine_parts.specs.contracts.mind.Mind as mind
use Rattle.cond_expr.specs.contracts.expr.Expr as expr
use Rattle.break_table.specs.contracts.entry.BreakEntry as breakentry
use Rattle.break_table.specs.contracts.table.BreakTable as breaktable
use Rattle.elf_symbols.specs.contracts.entry.SymbolEntry as symbolentry
use Rattle.elf_symbols.specs.contracts.names.Symbols as symbols
use Rattle.line_index.specs.contracts.index.LineIndex as lineindex
use Rattle.dwarf_frames.specs.contracts.index.FrameIndex as frameindex
use Rattle.debug_info.specs.contracts.info.Info as info
use Rattle.dbg_model.specs.contracts.source_index.SourceIndex as sourceindex
use Rattle.data_memory.specs.contracts.memory.DataMemory as datamemory
use Rattle.hart_machine.specs.contracts.machine.Machine as machine
use Rattle.elf32_read.specs.contracts.image.Image as image
use Rattle.dbg_model.specs.contracts.opening.Opening as opening
use Rattle.dbg_model.specs.contracts.entry.Entry as entry

-- a condition's tree holds itself
node_step : (i : knot.the_members) → Sends knot.ring i
node_step block.member-Node = record {
  send = λ h all.
      let m = knot.member-Node in
      let b = Box-send (h m) (all m) in
      let leaf : IsSend (as_row leaf.the_field) = search (sendable, crosses) depth 60 fits 20000 in
      let prefix : IsSend (as_row prefix.the_field) = search (sendable, crosses) depth 60 fits 20000 in
      let binary : IsSend (as_row binary.the_field) = search (sendable, crosses) depth 60 fits 20000 in
      let r : IsSend (knot.layer-Node (h m) (h m) (h m)) = variants_send (knot.type-Node (h m) (h m) (h m)) ((leaf, tt), ((prefix, (b, tt)), ((binary, (b, (b, tt))), tt))) in
      record { owned = r.owned; leaving = r.leaving };
}

node_hole_send : IsSend knot.hole-Node
node_hole_send = fix_send knot.ring node_step knot.member-Node

node_send : IsSend node.the_field.row
node_send = search (sendable, crosses, node_hole_send) depth 60 fits 20000

instr_send : IsSend instr.the_field.row
instr_send = search (sendable, crosses) depth 100 fits 100000

fetch_send : IsSend fetch.the_field.row
fetch_send = search (sendable, crosses, instr_send) depth 100 fits 100000

-- variant by variant, as a search over all of them takes too many steps
operation_send : IsSend (as_row operation.the_field)
operation_send =
    let t : IsSend (as_row target.the_field) = search (sendable, crosses) depth 60 fits 20000 in
    let r : IsSend (as_row reg.the_field) = search (sendable, crosses) depth 60 fits 20000 in
    let u : IsSend (as_row u32-field) = search (sendable, crosses) depth 60 fits 20000 in
    let l : IsSend (as_row loadop.the_field) = search (sendable, crosses) depth 60 fits 20000 in
    let a : IsSend (as_row amoop.the_field) = search (sendable, crosses) depth 60 fits 20000 in
    variants_send operation.enum ((
      tt,
      (
        (t, (u, tt)),
        (
          (t, (u, tt)),
          (
            (u, tt),
            (
              (t, (u, tt)),
              (
                (r, (u, tt)),
                (
                  (t, (r, (u, tt))),
                  (
                    (r, (r, (u, tt))),
                    (
                      (r, (r, (u, tt))),
                      (
                        (r, (r, (u, tt))),
                        (
                          (r, (r, (u, tt))),
                          (
                            (r, (r, (u, tt))),
                            (
                              (r, (r, (u, tt))),
                              (
                                (t, (r, (u, tt))),
                                (
                                  (t, (r, (u, tt))),
                                  (
                                    (t, (r, (u, tt))),
                                    (
                                      (t, (r, (u, tt))),
                                      (
                                        (t, (r, (u, tt))),
                                        (
                                          (l, (r, (u, tt))),
                                          (
                                            (r, (r, (u, tt))),
                                            (
                                              (r, (r, (u, tt))),
                                              (
                                                (r, (r, (u, tt))),
                                                (
                                                  (t, (r, (u, tt))),
                                                  (
                                                    (t, (r, (u, tt))),
                                                    (
                                                      (t, (r, (u, tt))),
                                                      (
                                                        (t, (r, (u, tt))),
                                                        (
                                                          (t, (r, (u, tt))),
                                                          (
                                                            (t, (r, (u, tt))),
                                                            (
                                                              (t, (r, (u, tt))),
                                                              (
                                                                (t, (r, (u, tt))),
                                                                (
                                                                  (t, (r, (u, tt))),
                                                                  (
                                                                    (t, (r, (u, tt))),
                                                                    (
                                                                      (t, (r, (r, tt))),
                                                                      (
                                                                        (t, (r, (r, tt))),
                                                                        (
                                                                          (t, (r, (r, tt))),
                                                                          (
                                                                            (t, (r, (r, tt))),
                                                                            (
                                                                              (t, (r, (r, tt))),
                                                                              (
                                                                                (t, (r, (r, tt))),
                                                                                (
                                                                                  (t, (r, (r, tt))),
                                                                                  (
                                                                                    (t, (r, (r, tt))),
                                                                                    (
                                                                                      (t, (r, (r, tt))),
                                                                                      (
                                                                                        (t, (r, (r, tt))),
                                                                                        (
                                                                                          (t, (r, (r, tt))),
                                                                                          (
                                                                                            (t, (r, (r, tt))),
                                                                                            (
                                                                                              (t, (r, (r, tt))),
                                                                                              (
                                                                                                (t, (r, (r, tt))),
                                                                                                (
                                                                                                  (t, (r, (r, tt))),
                                                                                                  (
                                                                                                    (t, (r, (r, tt))),
                                                                                                    (
                                                                                                      (t, (r, (r, tt))),
                                                                                                      (
                                                                                                        (t, (r, (r, tt))),
                                                                                                        ((a, (r, (r, (r, tt)))), (tt, (tt, tt))),
                                                                                                      ),
                                                                                                    ),
                                                                                                  ),
                                                                                                ),
                                                                                              ),
                                                                                            ),
                                                                                          ),
                                                                                        ),
                                                                                      ),
                                                                                    ),
                                                                                  ),
                                                                                ),
                                                                              ),
                                                                            ),
                                                                          ),
                                                                        ),
                                                                      ),
                                                                    ),
                                                                  ),
                                                                ),
                                                              ),
                                                            ),
                                                          ),
                                                        ),
                                                      ),
                                                    ),
                                                  ),
                                                ),
                                              ),
                                            ),
                                          ),
                                        ),
                                      ),
                                    ),
                                  ),
                                ),
                              ),
                            ),
                          ),
                        ),
                      ),
                    ),
                  ),
                ),
              ),
            ),
          ),
        ),
      ),
    )
    )

textwords_send : IsSend textwords.the_field.row
textwords_send = search (sendable, crosses, fetch_send, operation_send) depth 100 fits 100000

plan_send : IsSend plan.the_field.row
plan_send = search (sendable, crosses) depth 100 fits 100000

pub mind_send : IsSend mind.the_field.row
mind_send = search (sendable, crosses, plan_send) depth 100 fits 100000

expr_send : IsSend expr.the_field.row
expr_send = search (sendable, crosses, node_send) depth 100 fits 100000

breakentry_send : IsSend breakentry.the_field.row
breakentry_send = search (sendable, crosses, expr_send) depth 100 fits 100000

pub breaktable_send : IsSend breaktable.the_field.row
breaktable_send = search (sendable, crosses, breakentry_send) depth 100 fits 100000

symbolentry_send : IsSend symbolentry.the_field.row
symbolentry_send = search (sendable, crosses) depth 100 fits 100000

symbols_send : IsSend symbols.the_field.row
symbols_send = search (sendable, crosses, maps.crosses, symbolentry_send) depth 100 fits 100000

lineindex_send : IsSend lineindex.the_field.row
lineindex_send = search (sendable, crosses) depth 100 fits 100000

frameindex_send : IsSend frameindex.the_field.row
frameindex_send = search (sendable, crosses) depth 100 fits 100000

info_send : IsSend info.the_field.row
info_send = search (sendable, crosses) depth 100 fits 100000

pub sourceindex_send : IsSend sourceindex.the_field.row
sourceindex_send = search (sendable, crosses, symbols_send, lineindex_send, frameindex_send, info_send) depth 100 fits 100000

datamemory_send : IsSend datamemory.the_field.row
datamemory_send = search (sendable, crosses) depth 100 fits 100000

pub machine_send : IsSend machine.the_field.row
machine_send = search (sendable, crosses, textwords_send, datamemory_send) depth 100 fits 100000

image_send : IsSend image.the_field.row
image_send = search (sendable, crosses) depth 100 fits 100000

pub opening_send : IsSend opening.the_field.row
opening_send = search (sendable, crosses, image_send) depth 100 fits 100000

pub entry_send : IsSend entry.the_field.row
entry_send = search (sendable, crosses) depth 100 fits 100000

pub outside_send : (T : RattleType) (g : world.Ghosts T.Denot) → IsSend T → IsSend (outside.the_field T g).row
outside_send T g t = search (sendable, crosses) depth 100 fits 100000
