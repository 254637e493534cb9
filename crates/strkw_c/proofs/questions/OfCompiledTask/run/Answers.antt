use Rattle.strkw_c.proofs.questions.OfCompiledTask.run.Goals as goal

pub ask-requires-clause-in_use : goal.ask-requires-clause-in_use
ask-requires-clause-in_use g c =
    let (object, of) = c.requires.1 in
    c.lists_of_compile_are_in_use.ensures _ object c.args.self.now.keywords.now of
