-- The rules, in reading order.

-- where a case stands, and what a condition reads there
pub mod Moments
-- which command of a stimulus comes next
pub mod Dues
-- what RUN and UNTIL give
pub mod Scans
-- what a line gives, and where a case stands behind it
pub mod Courses
-- what has to hold, and which cases pass
pub mod Holding
-- what functions answer
pub mod Answers
-- What is cited of a case that runs.
pub mod Running
