mod StoppedRounds
