use Rattle.printing.specs.Words.{verdict_text}
use Rattle.setting.proofs.Within.{printed_within}
use Rattle.setting.proofs.print_search.Goals as goal

pub returns : goal.returns
returns g c =
    let done = c.in-Ok.ensures.does in
    let v = c.in-Ok.verdict in
    record {
      searched =
          record {
            verdict = v;
            marks = c.search.new.marks;
            verdicts =
                record {
                  needed = done.needed;
                  end = done.end;
                  explores = done.explores;
                  says = done.says;
                  marks = done.marks;
                  truth = c.in-Ok.ensures.truth;
                };
            printed = c.print_verdict.ensures;
          };
      within = printed_within (verdict_text v c.search.new.marks) c.args.out.now c.print_verdict.new.out c.print_verdict.result c.print_verdict.ensures;
    }
