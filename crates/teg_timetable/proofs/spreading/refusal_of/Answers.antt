use Rattle.teg_timetable.proofs.spreading.refusal_of.Goals as goal

pub returns-in-TooLarge : goal.returns-in-TooLarge
returns-in-TooLarge c = λ net period table limit h. rw c.in-TooLarge.is at h

pub returns-in-Unworkable : goal.returns-in-Unworkable
returns-in-Unworkable c = λ net period table limit h. rw c.in-Unworkable.is at h
