mod ReadyDates
