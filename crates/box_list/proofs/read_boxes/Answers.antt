use Rattle.std.proofs.Common.{◌≡◌, ℕ, ◌<◌, List, length, refl, arith}
use Rattle.box_text.specs.Text.{rows_of, headings}
use Rattle.box_list.specs.Spelling.{box_rows, row_at}
use Rattle.box_list.proofs.Faults.{first_fault}
use Rattle.box_list.proofs.Filling.{judged_box, filled_more, listed}
use Rattle.box_list.proofs.Taking.{more, row_cells, after_more, after_all}
use Rattle.box_list.proofs.read_boxes.Goals as goal

pub bounds-list-count : goal.bounds-list-count
bounds-list-count c =
    let took = c.in-Some-next.ensures.steps in
    omega (arith, c.in_default.ensures, more (box_rows c.args.text.now) _ c.loop-row.count c.loop-row.reader c.next.new.self took.0 c.loop-row.invariant.0 took.2)

pub loop-row-preserved : goal.loop-row-preserved
loop-row-preserved c =
    let rows : List (List ℕ) = box_rows c.args.text.now in
    let h : ℕ = headings (rows_of c.args.text.now) in
    let i : ℕ = c.loop-row.count in
    let took = c.in-Some-next.ensures.steps in
    let lt = more rows h i c.loop-row.reader c.next.new.self took.0 c.loop-row.invariant.0 took.2 in
    let a = row_cells rows h i c.loop-row.reader c.next.new.self took.0 c.loop-row.invariant.0 took.2 c.in-Some-next.row took.1 in
    let b = judged_box (row_at rows i) c.in-Some-next.row c.loop-row.before c.in-Ok.b a c.in-Ok.ensures in
    let few : i < 4096 = omega (arith, c.in_default.ensures) in (
      after_more rows h i c.loop-row.reader c.next.new.self took.0 c.loop-row.invariant.0 took.2,
      filled_more rows c.args.boxes.now c.loop-row.list i c.loop-row.before c.in-Ok.b c.loop-row.invariant.1 few b.0 b.1,
    )

pub returns-in-Err : goal.returns-in-Err
returns-in-Err c =
    let rows : List (List ℕ) = box_rows c.args.text.now in
    let h : ℕ = headings (rows_of c.args.text.now) in
    let i : ℕ = c.loop-row.count in
    let took = c.in-Some-next.ensures.steps in
    let lt = more rows h i c.loop-row.reader c.next.new.self took.0 c.loop-row.invariant.0 took.2 in
    let a = row_cells rows h i c.loop-row.reader c.next.new.self took.0 c.loop-row.invariant.0 took.2 c.in-Some-next.row took.1 in
    let f = c.loop-row.invariant.1 in
    record {
      read = (
        record {
          first = first_fault rows c.loop-row.list i c.loop-row.before c.in_default.ensures lt f.last f.taken c.in-Some-next.row c.in-Err.cause a c.in-Err.ensures;
          row = omega (arith, took.2.1);
        },
        refl,
      );
      within = tt;
    }

pub returns : goal.returns
returns c =
    let rows : List (List ℕ) = box_rows c.args.text.now in
    let i : ℕ = c.loop-row.count in
    let end = after_all rows _ i c.loop-row.reader c.loop-row.invariant.0 c.in_default-next.ensures.steps.0 in
    let all : i ≡ length rows = omega arith in
    let f = c.loop-row.invariant.1 in
    record {
      read = (all, listed c.args.text.now c.args.boxes.now c.loop-row.list i c.loop-row.before f all (omega (arith, c.in_default.ensures)), f.rest);
      within = omega (arith, c.in_default.ensures);
    }
