use Rattle.std.proofs.Common.{◌≡◌, ◌+◌, ◌%◌, ◌^◌, ap, ◌∙◌, arith, refl, drop}
use Rattle.std.specs.Prelude.{slice_index}
use Rattle.std.specs.FinMap as map
use Rattle.rv_exec.specs.Memory.{is_writable}
use Rattle.data_memory.specs.Paged.{paged}
use Rattle.data_memory.specs.Ranges.{with_bytes}
use Rattle.data_memory.proofs.RangesWritten.{each_writable, still_writable, one_more}
use Rattle.data_memory.proofs.writing.write_in.Goals as goal

pub write-init : goal.write-init
write-init c =
    let zeroth : c.args.addr + 0 ≡ c.args.addr = omega arith in
    let old = paged c.args.pages.now c.args.frames.now in
    record {
      kept = c.requires.kept;
      writable = each_writable old c.args.addr _ c.requires.writable;
      rest = ap (λ a. with_bytes old a c.args.bytes.now) zeroth;
    }

pub put_in-requires-clause-writable : goal.put_in-requires-clause-writable
put_in-requires-clause-writable c =
    let now = paged c.args.pages.now c.write.frames in
    ap (λ a. is_writable (map.get now a)) c.address_on.ensures ∙ c.write.invariant.writable c.write.i c.write-test.true

pub write-preserved : goal.write-preserved
write-preserved c =
    let now = paged c.args.pages.now c.write.frames in
    record {
      kept = c.put_in.ensures.kept;
      writable = λ k l.
          ap (λ m. is_writable (map.get m ((c.args.addr + k) % 2 ^ 32))) c.put_in.ensures.memory
          ∙ still_writable now c.address_on.result (slice_index c.args.bytes.now c.write.i) ((c.args.addr + k) % 2 ^ 32) (c.write.invariant.writable k l);
      rest =
          ap (λ m. with_bytes m (c.args.addr + (c.write.i + 1)) (drop (c.write.i + 1) c.args.bytes.now)) c.put_in.ensures.memory
          ∙ (one_more now c.args.addr c.write.i c.address_on.result (slice_index c.args.bytes.now c.write.i) c.args.bytes.now c.write-test.true c.address_on.ensures refl ∙ c.write.invariant.rest);
    }
